use Rattle.std.proofs.Common.{ℕ, ◌<◌}
use Rattle.squares_build.specs.Steps.{lent}
use Rattle.squares_build.specs.Cells.{RowComesBack}
use Rattle.squares_build.proofs.steps.Steps.comes_back.Given as goal

abbrev pub invariant-loop-y : goal.invariant-loop-y
invariant-loop-y l = (j : ℕ) → 0 < j → j < l.y → RowComesBack (lent l.self) j
