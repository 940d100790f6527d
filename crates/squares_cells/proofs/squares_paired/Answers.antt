use Rattle.squares_cells.proofs.Cells.{squares_paired}
use Rattle.squares_cells.proofs.squares_paired.Goals as goal

pub returns : goal.returns
returns c = squares_paired
