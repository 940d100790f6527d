use Rattle.std.proofs.Common.{◌+◌}
use Rattle.net_cells.specs.Lists.{no_cell}
use Rattle.squares_build.specs.Steps.{lent}
use Rattle.squares_build.specs.Laid.{Laid}
use Rattle.squares_build.specs.Cells.{IsCellAt}
use Rattle.squares_build.proofs.steps.Steps.fill_outside.Given as goal

abbrev pub invariant-loop-x : goal.invariant-loop-x
invariant-loop-x l = Laid (l.self.wide + 1) (IsCellAt (lent l.self)) no_cell l.x l.y l.cells
