-- Expected steps of lists.
use Rattle.std.specs.Prelude.{◌≡◌, ℕ, ◌<◌, List, length, ℤ, pos, ◌-ℤ◌, slice_index, slice_index_or}
use Rattle.phase_field.specs.Field.{wrap_count}

-- by how many turns the wrapped differences are more
abbrev pub Counts : (turn : ℕ) → (from to : List ℕ) → List ℤ → Type 0
Counts t from to counts = (k : ℕ) → k < length counts → slice_index_or counts k (pos 0) ≡ wrap_count t (pos (slice_index to k) -ℤ pos (slice_index from k))
