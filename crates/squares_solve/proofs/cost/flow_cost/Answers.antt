use Rattle.std.proofs.Common.{◌+◌, ap₂, ◌∙◌}
use Rattle.squares_cells.specs.Squares.{across}
use Rattle.squares_build.specs.Steps.{lent}
use Rattle.squares_solve.proofs.Costing.{flow_cost_rows}
use Rattle.squares_solve.proofs.cost.flow_cost.Goals as goal

pub returns-clause-is : goal.returns-clause-is
returns-clause-is c = ap₂ (λ a b. a + b) c.right_cost.ensures.is c.below_cost.ensures.is ∙ flow_cost_rows (lent c.args.steps.now) (across (lent c.args.steps.now) c.args.flows.now)
