-- Larger prices never make the least smaller.
use Rattle.phase_cost.proofs.Fields.{dearer}
use Rattle.phase_cost.proofs.dearer.Goals as goal

pub returns : goal.returns
returns c = dearer
