use Rattle.squares_cells.proofs.Flows.{flows_across}
use Rattle.squares_cells.proofs.flows_across.Goals as goal

pub returns : goal.returns
returns c = flows_across
