use Rattle.squares_cells.specs.Squares.{across}
use Rattle.squares_build.specs.Steps.{lent}
use Rattle.squares_solve.specs.Cost.{step_right_cost}
use Rattle.squares_solve.proofs.Summing.{SoFar}
use Rattle.squares_solve.proofs.cost.row_right_cost.Given as goal

abbrev pub invariant-loop-x : goal.invariant-loop-x
invariant-loop-x l = SoFar (step_right_cost (lent l.steps) (across (lent l.steps) l.flows) l.y) 524288000 l.x l.cost
