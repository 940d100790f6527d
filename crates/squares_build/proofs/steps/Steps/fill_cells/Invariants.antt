use Rattle.std.proofs.Common.{◌+◌}
use Rattle.net_cells.specs.Lists.{no_cell}
use Rattle.squares_build.specs.Steps.{lent}
use Rattle.squares_build.specs.Laid.{Laid}
use Rattle.squares_build.specs.Cells.{IsCellAt}
use Rattle.squares_build.proofs.steps.Steps.fill_cells.Given as goal

abbrev pub invariant-loop-y : goal.invariant-loop-y
invariant-loop-y l = Laid (l.self.wide + 1) (IsCellAt (lent l.self)) no_cell 0 l.y l.cells
