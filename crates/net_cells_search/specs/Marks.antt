-- Lists of marks, and the list of the cells that have a label.
use Rattle.std.specs.Prelude.{◌≡◌, ℕ, zero, suc, ◌+◌, ◌^◌, ◌<◌, ◌≤◌, ◌⊎◌, Bool, true, false, if◌then◌else◌, List, length, ℤ, pos, ◌≤ℤ◌, ◌<ℤ◌, ◌≢◌, int_lt, slice_index, slice_index_or}
use Rattle.sums.specs.Sum.{sum_to}
use Rattle.net_cells.specs.Lists.{number}
use Rattle.net_cells.specs.declared.cell.Mark.{Mark}
use Rattle.net_cells.specs.declared.way.Way.TheVariants.{Right}

-- a label that no way comes to: a cell that was not met
abbrev pub far : ℤ
far = pos (2 ^ 30)

abbrev pub no_mark : Mark
no_mark = record { label = far; way = Right; waits = false }

abbrev pub label_of : List Mark → ℕ → ℤ
label_of marks v = (slice_index_or marks v no_mark).label

abbrev pub way_of : List Mark → ℕ → ℕ
way_of marks v = number (slice_index_or marks v no_mark).way

abbrev pub open_of : List Mark → ℕ → Bool
open_of marks v = (slice_index_or marks v no_mark).waits

-- cell v has this mark
pub record Marked (old new : List Mark) (v : ℕ) (m : Mark) : Type 0 where
  pub label_here : label_of new v ≡ m.label
  pub label_kept : (w : ℕ) → (w ≢ v) → label_of new w ≡ label_of old w
  pub way_here : way_of new v ≡ number m.way
  pub way_kept : (w : ℕ) → (w ≢ v) → way_of new w ≡ way_of old w
  pub open_here : open_of new v ≡ m.waits
  pub open_kept : (w : ℕ) → (w ≢ v) → open_of new w ≡ open_of old w

-- cell u waits no more
pub record Shut (old new : List Mark) (u : ℕ) : Type 0 where
  pub label : (w : ℕ) → label_of new w ≡ label_of old w
  pub way : (w : ℕ) → way_of new w ≡ way_of old w
  pub open_here : open_of new u ≡ false
  pub open_kept : (w : ℕ) → (w ≢ u) → open_of new w ≡ open_of old w

-- v stands behind the first of a list, and counts if it had no label
pub record Listed (label : ℤ) (old new : List ℕ) (count count' v : ℕ) : Type 0 where
  pub last : slice_index new count ≡ v
  pub kept : (k : ℕ) → k < count → slice_index new k ≡ slice_index old k
  pub more : label ≡ far → count' ≡ count + 1
  pub same : label <ℤ far → count' ≡ count

pub record IsLower (marks : List Mark) (v : ℕ) (bound r : ℤ) : Type 0 where
  pub nearer : r <ℤ label_of marks v
  pub below : r <ℤ bound

-- none of the first n listed cells waits nearer than the bound
abbrev pub NoneOpen : List Mark → List ℕ → ℕ → ℤ → Type 0
NoneOpen marks listed n bound = (k : ℕ) → k < n → open_of marks (slice_index listed k) ≡ true → bound ≤ℤ label_of marks (slice_index listed k)

-- 1 for a cell that was not met
abbrev pub unmet : ℤ → ℕ
unmet z = if int_lt z far then 0 else 1

-- the list has each cell with a label once
pub record Tidy (marks : List Mark) (touched : List ℕ) (count : ℕ) : Type 0 where
  pub cells : (k : ℕ) → k < count → slice_index touched k < length marks
  pub covered : (v : ℕ) → label_of marks v <ℤ far → (k : ℕ) × ((k < count) × (slice_index touched k ≡ v))
  pub counted : count + sum_to (length marks) (λ v. unmet (label_of marks v)) ≡ length marks
  pub top : (v : ℕ) → label_of marks v ≤ℤ far
  pub met : (v : ℕ) → open_of marks v ≡ true → label_of marks v <ℤ far

-- no cell has a label, and none waits
pub record Blank (marks : List Mark) : Type 0 where
  pub label : (v : ℕ) → label_of marks v ≡ far
  pub shut : (v : ℕ) → open_of marks v ≡ false
