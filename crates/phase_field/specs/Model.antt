-- A field by value as the field that it stands for, and places by their number.
use Rattle.std.specs.Prelude.{◌≡◌, ℕ, suc, ◌+◌, ◌*◌, ◌/◌, ◌%◌, ◌<◌, List, length, ℤ, pos, ◌-ℤ◌, slice_index_or}
use Rattle.phase_field.specs.Field.{Field, wrap_count, field_in}
use Rattle.phase_field.specs.declared.field.Field.{Field as code}

abbrev pub field_of : code → Field
field_of f = field_in f.wide f.high f.turn f.seen f.right f.below

-- places are numbered row by row
abbrev pub column : Field → ℕ → ℕ
column f p = p % f.wide

abbrev pub row : Field → ℕ → ℕ
row f p = p / f.wide

abbrev pub IsPlace : Field → ℕ → Type 0
IsPlace f p = row f p < f.high

-- the prices of the steps from a place that is told by its number
abbrev pub right_from : Field → ℕ → ℕ
right_from f p = f.right (column f p) (row f p)

abbrev pub below_from : Field → ℕ → ℕ
below_from f p = f.below (column f p) (row f p)

-- there is a step from a place to the right, and down
abbrev pub HasRight : Field → ℕ → Type 0
HasRight f p = (suc (column f p) < f.wide) × (row f p < f.high)

abbrev pub HasBelow : Field → ℕ → Type 0
HasBelow f p = suc (row f p) < f.high

-- what was seen at both ends of a step
abbrev pub ends_right : Field → ℕ → ℕ × ℕ
ends_right f p = (f.seen (column f p) (row f p), f.seen (suc (column f p)) (row f p))

abbrev pub ends_below : Field → ℕ → ℕ × ℕ
ends_below f p = (f.seen (column f p) (row f p), f.seen (column f p) (suc (row f p)))

-- the step expected from a place to the right and down, in turns that it is more than the difference of what was seen
abbrev pub turns_right : Field → ℕ → ℕ → ℤ
turns_right f x y = wrap_count f.turn (pos (f.seen (suc x) y) -ℤ pos (f.seen x y))

abbrev pub turns_below : Field → ℕ → ℕ → ℤ
turns_below f x y = wrap_count f.turn (pos (f.seen x (suc y)) -ℤ pos (f.seen x y))

-- the same from a place that is told by its number
abbrev pub turns_right_from : Field → ℕ → ℤ
turns_right_from f p = turns_right f (column f p) (row f p)

abbrev pub turns_below_from : Field → ℕ → ℤ
turns_below_from f p = turns_below f (column f p) (row f p)

-- so many of a list, from one on
pub record Part {A : Type 0} (from count : ℕ) (all part : List A) : Type 0 where
  pub long : length part ≡ count
  pub at : (x : ℕ) (d : A) → x < count → slice_index_or part x d ≡ slice_index_or all (from + x) d

-- a row of a list that is kept row by row
abbrev pub Row : {A : Type 0} → (wide y : ℕ) → (all row : List A) → Type 0
Row w y all row_y = Part (y * w) w all row_y
