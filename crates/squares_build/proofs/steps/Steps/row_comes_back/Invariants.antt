use Rattle.std.proofs.Common.{◌≡◌, ℕ, ◌<◌, pos}
use Rattle.squares_build.specs.Steps.{lent}
use Rattle.squares_build.specs.Cells.{excess_at}
use Rattle.squares_build.proofs.steps.Steps.row_comes_back.Given as goal

abbrev pub invariant-loop-x : goal.invariant-loop-x
invariant-loop-x l = (k : ℕ) → 0 < k → k < l.x → excess_at (lent l.self) k l.y ≡ pos 0
