use Rattle.squares_cells.proofs.Start.{unsolved_is_sound}
use Rattle.squares_cells.proofs.unsolved_is_sound.Goals as goal

pub returns : goal.returns
returns c = unsolved_is_sound
