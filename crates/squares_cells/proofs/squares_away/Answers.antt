use Rattle.squares_cells.proofs.Away.{squares_away}
use Rattle.squares_cells.proofs.squares_away.Goals as goal

pub returns : goal.returns
returns c = squares_away
