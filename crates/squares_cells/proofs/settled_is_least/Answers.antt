use Rattle.squares_cells.proofs.Least.{settled_is_least}
use Rattle.squares_cells.proofs.settled_is_least.Goals as goal

pub returns : goal.returns
returns c = settled_is_least
