-- Half a turn counts upward, whichever way it was seen.
use Rattle.phase_field.proofs.Near.{half_upward}
use Rattle.phase_field.proofs.theorems.half_upward.Goals as goal

pub returns : goal.returns
returns c = half_upward
