-- Every field has turns that cost least.
use Rattle.phase_cost.proofs.Least.{has_least}
use Rattle.phase_cost.proofs.has_least.Goals as goal

pub returns : goal.returns
returns c = has_least
