-- What lowering writes.
use Rattle.std.specs.Prelude.{◌≡◌, ℕ, ◌<◌, ◌⊎◌, Bool, true, false, if◌then◌else◌, List, length, ℤ, pos, ◌+ℤ◌, ◌-ℤ◌, ◌≤ℤ◌, ◌<ℤ◌, ◌≢◌, int_lt, slice_index}
use Rattle.net_cells.specs.Lists.{inner_of, excess_of, potential_of, signed}
use Rattle.net_cells.specs.declared.cell.Cell.{Cell}
use Rattle.net_cells.specs.declared.cell.Mark.{Mark}
use Rattle.net_cells.specs.declared.side.Side.{Side}
use Rattle.net_cells_search.specs.Marks.{far, label_of, way_of, open_of}

-- a potential lowered by what the label is below the bound, as it is seen
abbrev pub lowered : Side → ℤ → ℤ → ℤ → ℤ
lowered side label bound p = if int_lt label bound then p +ℤ signed side.back (label -ℤ bound) else p

-- cell v has the potential p
pub record FallenAt (old new : List Cell) (v : ℕ) (p : ℤ) : Type 0 where
  pub here : potential_of new v ≡ p
  pub kept : (w : ℕ) → (w ≢ v) → potential_of new w ≡ potential_of old w
  pub excess : (w : ℕ) → excess_of new w ≡ excess_of old w
  pub inner : (w : ℕ) → inner_of new w ≡ inner_of old w

-- cell v is as if it had not been met
pub record Forgotten (old new : List Mark) (v : ℕ) : Type 0 where
  pub label_here : label_of new v ≡ far
  pub label_kept : (w : ℕ) → (w ≢ v) → label_of new w ≡ label_of old w
  pub open_here : open_of new v ≡ false
  pub open_kept : (w : ℕ) → (w ≢ v) → open_of new w ≡ open_of old w
  pub way : (w : ℕ) → way_of new w ≡ way_of old w

-- a cell is as it was, or its potential is lowered and it is forgotten
pub record As (old new : List Cell) (marks marks' : List Mark) (v : ℕ) : Type 0 where
  pub potential : potential_of new v ≡ potential_of old v
  pub label : label_of marks' v ≡ label_of marks v
  pub waits : open_of marks' v ≡ open_of marks v

pub record Gone (side : Side) (bound : ℤ) (old new : List Cell) (marks marks' : List Mark) (v : ℕ) : Type 0 where
  pub potential : potential_of new v ≡ lowered side (label_of marks v) bound (potential_of old v)
  pub label : label_of marks' v ≡ far
  pub shut : open_of marks' v ≡ false

-- the first n listed cells are lowered
pub record Fallen (listed : List ℕ) (n : ℕ) (side : Side) (bound : ℤ) (old new : List Cell) (marks marks' : List Mark) : Type 0 where
  pub either : (v : ℕ) → As old new marks marks' v ⊎ Gone side bound old new marks marks' v
  pub gone : (k : ℕ) → k < n → Gone side bound old new marks marks' (slice_index listed k)
  pub way : (v : ℕ) → way_of marks' v ≡ way_of marks v
  pub excess : (v : ℕ) → excess_of new v ≡ excess_of old v
  pub inner : (v : ℕ) → inner_of new v ≡ inner_of old v
