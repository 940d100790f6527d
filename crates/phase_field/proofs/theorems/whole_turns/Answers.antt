-- Steps differ from what is expected by whole turns, to the right and down.
use Rattle.phase_field.proofs.Near.{whole_turns}
use Rattle.phase_field.proofs.theorems.whole_turns.Goals as goal

pub returns : goal.returns
returns c = whole_turns
