use Rattle.squares_cells.specs.Squares.{across}
use Rattle.squares_build.specs.Steps.{lent}
use Rattle.squares_solve.specs.Cost.{row_below_cost}
use Rattle.squares_solve.proofs.Summing.{SoFar}
use Rattle.squares_solve.proofs.cost.below_cost.Given as goal

abbrev pub invariant-loop-y : goal.invariant-loop-y
invariant-loop-y l = SoFar (row_below_cost (lent l.steps) (across (lent l.steps) l.flows)) 268435456000 l.y l.cost
