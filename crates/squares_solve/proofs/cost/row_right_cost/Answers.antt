use Rattle.std.proofs.Common.{arith}
use Rattle.squares_cells.specs.Squares.{across}
use Rattle.squares_build.specs.Steps.{lent}
use Rattle.squares_solve.proofs.Summing.{none_yet, one_more}
use Rattle.squares_solve.proofs.Costing.{row_right_is}
use Rattle.squares_solve.proofs.cost.row_right_cost.Goals as goal

pub loop-x-init : goal.loop-x-init
loop-x-init c = none_yet _ 524288000

pub loop-x-preserved : goal.loop-x-preserved
loop-x-preserved c = one_more _ 524288000 c.loop-x.x c.loop-x.cost c.step_right_cost-cost.result c.loop-x.invariant c.step_right_cost-cost.ensures.is c.step_right_cost-cost.ensures.small

pub returns-clause-is : goal.returns-clause-is
returns-clause-is c = row_right_is (lent c.args.steps.now) (across (lent c.args.steps.now) c.args.flows.now) c.args.y 524288000 c.loop-x.x c.loop-x.cost c.loop-x.invariant (omega (arith, c.loop-x.auto.x-end))
