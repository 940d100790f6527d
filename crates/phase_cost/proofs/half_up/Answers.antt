-- Worked example: 0 5 at turn 10.
use Rattle.phase_cost.proofs.Examples.{half_up}
use Rattle.phase_cost.proofs.half_up.Goals as goal

pub returns : goal.returns
returns c = half_up
