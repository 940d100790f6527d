use Rattle.phase_field.proofs.Near.{near_turns}
use Rattle.phase_field.proofs.theorems.near_turns.Goals as goal

pub returns : goal.returns
returns c = near_turns
