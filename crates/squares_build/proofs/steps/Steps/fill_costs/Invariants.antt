use Rattle.net_cells.specs.Lists.{no_costs}
use Rattle.squares_build.specs.Steps.{lent}
use Rattle.squares_build.specs.Cells.{CostsAt}
use Rattle.squares_build.specs.Laid.{Laid}
use Rattle.squares_build.proofs.steps.Steps.fill_costs.Given as goal

abbrev pub invariant-loop-y : goal.invariant-loop-y
invariant-loop-y l = Laid l.stride (CostsAt (lent l.self)) no_costs 0 l.y l.costs

abbrev pub invariant-loop-x : goal.invariant-loop-x
invariant-loop-x l = Laid l.stride (CostsAt (lent l.self)) no_costs l.x l.y l.costs
