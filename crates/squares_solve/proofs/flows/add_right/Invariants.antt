use Rattle.squares_cells.specs.Squares.{across}
use Rattle.squares_build.specs.Steps.{sized}
use Rattle.squares_solve.proofs.Adding.{Adding}
use Rattle.squares_solve.proofs.flows.add_right.Given as goal

abbrev pub invariant-loop-y : goal.invariant-loop-y
invariant-loop-y l = Adding l.wide l.wide (across (sized l.wide l.high) l.flows).below l.fn.steps 0 l.y l.steps

abbrev pub invariant-loop-x : goal.invariant-loop-x
invariant-loop-x l = Adding l.wide l.wide (across (sized l.wide l.high) l.flows).below l.fn.steps l.x l.y l.steps
