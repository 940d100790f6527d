-- All turned by as much costs the same.
use Rattle.phase_cost.proofs.Fields.{all_the_same}
use Rattle.phase_cost.proofs.all_the_same.Goals as goal

pub returns : goal.returns
returns c = all_the_same
