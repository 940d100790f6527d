-- What a flow across steps costs, row by row.
use Rattle.std.specs.Prelude.{ℕ, pred, ◌*◌, unsigned_abs}
use Rattle.sums.specs.Sum.{sum_to}
use Rattle.phase_cost.specs.Steps.{Steps}
use Rattle.squares_cells.specs.Squares.{Across}

abbrev pub step_right_cost : Steps → Across → ℕ → ℕ → ℕ
step_right_cost s a y x = s.right x y * unsigned_abs (a.right x y)

abbrev pub step_below_cost : Steps → Across → ℕ → ℕ → ℕ
step_below_cost s a y x = s.below x y * unsigned_abs (a.below x y)

unfoldable pub row_right_cost : Steps → Across → ℕ → ℕ
row_right_cost s a y = sum_to (pred s.wide) (step_right_cost s a y)

unfoldable pub row_below_cost : Steps → Across → ℕ → ℕ
row_below_cost s a y = sum_to s.wide (step_below_cost s a y)

unfoldable pub right_cost : Steps → Across → ℕ
right_cost s a = sum_to s.high (row_right_cost s a)

unfoldable pub below_cost : Steps → Across → ℕ
below_cost s a = sum_to (pred s.high) (row_below_cost s a)
