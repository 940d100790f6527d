-- If all comes back round every square there are turns that cost nothing; and with every price at least 1, only then.
use Rattle.phase_cost.proofs.Integral.{costs_nothing}
use Rattle.phase_cost.proofs.costs_nothing.Goals as goal

pub returns : goal.returns
returns c = costs_nothing
