-- Round a square it is nothing, a turn more or a turn less.
use Rattle.phase_field.proofs.Near.{one_turn}
use Rattle.phase_field.proofs.theorems.one_turn.Goals as goal

pub returns : goal.returns
returns c = one_turn
