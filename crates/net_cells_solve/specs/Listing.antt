-- The list of the cells that have something in excess or lack something.
use Rattle.std.specs.Prelude.{◌≡◌, ℕ, ◌<◌, ◌≢◌, List, length, true, false, pos, slice_index}
use Rattle.net_cells.specs.Lists.{inner_of, excess_of}
use Rattle.net_cells.specs.declared.cell.Cell.{Cell}
use Rattle.net_cells.specs.declared.side.Side.{Side}

-- the first of the list are inner cells, among them all that have something in excess or lack something
pub record Listing (cells : List Cell) (list : List ℕ) (count : ℕ) : Type 0 where
  pub within : (k : ℕ) → k < count → slice_index list k < length cells
  pub inner : (k : ℕ) → k < count → inner_of cells (slice_index list k) ≡ true
  pub covers : (u : ℕ) → inner_of cells u ≡ true → (excess_of cells u ≢ pos 0) → (k : ℕ) × ((k < count) × (slice_index list k ≡ u))

-- the two sides
abbrev pub ahead : ℕ → Side
ahead s = record { stride = s; back = false }

abbrev pub behind : ℕ → Side
behind s = record { stride = s; back = true }
