-- The cells of squares before anything flows.
use Rattle.std.specs.Prelude.{◌≡◌, ℕ, ◌-◌, ◌+ℤ◌, ◌-ℤ◌, ◌<◌, ◌≤◌, if◌then◌else◌, List, true, ℤ, pos, slice_index_or}
use Rattle.phase_cost.specs.Steps.{Steps}
use Rattle.net_cells.specs.Lists.{no_cell, no_costs}
use Rattle.net_cells.specs.declared.cell.Cell.{Cell}
use Rattle.net_cells.specs.declared.cell.Costs.{Costs}
use Rattle.squares_cells.specs.Squares.{corner, cell}

-- a square has its residue, taken away, in excess
abbrev pub excess_at : Steps → ℕ → ℕ → ℤ
excess_at s x y = (s.to_below (x - 1) (y - 1) +ℤ s.to_right (x - 1) y) -ℤ (s.to_right (x - 1) (y - 1) +ℤ s.to_below x (y - 1))

-- no square with its last corner in row y has anything in excess
abbrev pub RowComesBack : Steps → ℕ → Type 0
RowComesBack s y = (x : ℕ) → 0 < x → x < s.wide → excess_at s x y ≡ pos 0

unfoldable pub cell_for : Steps → ℕ → ℕ → Cell
cell_for s x y =
    if corner s.wide s.high x y then record { excess = excess_at s x y; potential = pos 0; inner = true } else no_cell

abbrev pub IsCellAt : Steps → ℕ → ℕ → Cell → Type 0
IsCellAt s x y v = v ≡ cell_for s x y

-- what is lent of cells is that of squares
abbrev pub CellsFor : Steps → List Cell → Type 0
CellsFor s cells = (x y : ℕ) → x ≤ s.wide → y ≤ s.high → IsCellAt s x y (slice_index_or cells (cell s x y) no_cell)

-- the prices of the steps that the ways of the cell at (x, y) cross
pub record CostsAt (s : Steps) (x y : ℕ) (costs : Costs) : Type 0 where
  pub right : x < s.wide → 0 < y → y < s.high → costs.right ≡ pos (s.below x (y - 1))
  pub left : 0 < x → 0 < y → y < s.high → costs.left ≡ pos (s.below (x - 1) (y - 1))
  pub up : 0 < x → x < s.wide → 0 < y → costs.up ≡ pos (s.right (x - 1) (y - 1))
  pub down : 0 < x → x < s.wide → y < s.high → costs.down ≡ pos (s.right (x - 1) y)

-- each step's price stands at both ends of its edge
abbrev pub CostsFor : Steps → List Costs → Type 0
CostsFor s costs = (x y : ℕ) → x ≤ s.wide → y ≤ s.high → CostsAt s x y (slice_index_or costs (cell s x y) no_costs)
