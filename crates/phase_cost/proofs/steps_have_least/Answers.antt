-- So have expected steps that come from anywhere.
use Rattle.phase_cost.proofs.Least.{steps_have_least}
use Rattle.phase_cost.proofs.steps_have_least.Goals as goal

pub returns : goal.returns
returns c = steps_have_least
