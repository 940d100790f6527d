-- Only one number within half a turn differs from what is expected by whole turns.
use Rattle.phase_field.proofs.Near.{near_unique}
use Rattle.phase_field.proofs.theorems.near_unique.Goals as goal

pub returns : goal.returns
returns c = near_unique
