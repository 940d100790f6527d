use Rattle.squares_cells.proofs.Least.{settled_turns}
use Rattle.squares_cells.proofs.settled_turns.Goals as goal

pub returns : goal.returns
returns c = settled_turns
