-- Worked example: 5 0 at turn 10.
use Rattle.phase_cost.proofs.Examples.{half_over}
use Rattle.phase_cost.proofs.half_over.Goals as goal

pub returns : goal.returns
returns c = half_over
