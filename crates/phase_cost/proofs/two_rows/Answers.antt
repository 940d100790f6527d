-- Worked example: 1 4 7 0 / 2 5 8 1 at turn 10.
use Rattle.phase_cost.proofs.Examples.{two_rows}
use Rattle.phase_cost.proofs.two_rows.Goals as goal

pub returns : goal.returns
returns c = two_rows
