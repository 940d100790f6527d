use Rattle.squares_cells.proofs.Supply.{supplies_few}
use Rattle.squares_cells.proofs.supplies_few.Goals as goal

pub returns : goal.returns
returns c = supplies_few
