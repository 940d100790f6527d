use Rattle.std.proofs.Common.{arith}
use Rattle.squares_cells.specs.Squares.{across}
use Rattle.squares_build.specs.Steps.{lent}
use Rattle.squares_solve.proofs.Summing.{none_yet, one_more}
use Rattle.squares_solve.proofs.Costing.{right_is}
use Rattle.squares_solve.proofs.cost.right_cost.Goals as goal

pub loop-y-init : goal.loop-y-init
loop-y-init c = none_yet _ 268435456000

pub loop-y-preserved : goal.loop-y-preserved
loop-y-preserved c = one_more _ 268435456000 c.loop-y.y c.loop-y.cost c.row_right_cost-cost.result c.loop-y.invariant c.row_right_cost-cost.ensures.is c.row_right_cost-cost.ensures.small

pub returns-clause-is : goal.returns-clause-is
returns-clause-is c = right_is (lent c.args.steps.now) (across (lent c.args.steps.now) c.args.flows.now) 268435456000 c.loop-y.y c.loop-y.cost c.loop-y.invariant (omega (arith, c.loop-y.auto.y-end))
