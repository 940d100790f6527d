-- What a solver asks of the cells and prices that it is lent.
use Rattle.std.specs.Prelude.{◌≡◌, ℕ, ◌+◌, ◌^◌, ◌<◌, ◌≤◌, List, length, true, unsigned_abs}
use Rattle.net_cells.specs.Net.{back}
use Rattle.net_cells.specs.Lists.{inner_of, potential_of, cost_in, head}
use Rattle.net_cells.specs.declared.cell.Cell.{Cell}
use Rattle.net_cells.specs.declared.cell.Costs.{Costs}
use Rattle.net_cells.specs.declared.side.Side.{Side}

-- As many cells as between the squares of a field of 512 by 512 at most; those within have neighbours on all four sides, and prices are up to 1,000.
pub record Fenced (cells : List Cell) (costs : List Costs) (side : Side) : Type 0 where
  pub size : length cells ≤ 263169
  pub priced : length costs ≡ length cells
  pub stride : 1 ≤ side.stride
  pub low : (u : ℕ) → inner_of cells u ≡ true → side.stride < u
  pub high : (u : ℕ) → inner_of cells u ≡ true → u + side.stride < length cells
  pub cost : (u d : ℕ) → inner_of cells u ≡ true → d < 4 → unsigned_abs (cost_in costs side u d) ≤ 1000
  pub cost_back : (u d : ℕ) → inner_of cells u ≡ true → d < 4 → unsigned_abs (cost_in costs side (head side.stride u d) (back d)) ≤ 1000

-- potentials fit
abbrev pub Bounded : List Cell → Type 0
Bounded cells = (v : ℕ) → unsigned_abs (potential_of cells v) ≤ 2 ^ 28
