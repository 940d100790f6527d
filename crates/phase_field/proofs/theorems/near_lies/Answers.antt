-- What is expected of a difference of less than a turn lies within half a turn.
use Rattle.phase_field.proofs.Near.{near_lies}
use Rattle.phase_field.proofs.theorems.near_lies.Goals as goal

pub returns : goal.returns
returns c = near_lies
