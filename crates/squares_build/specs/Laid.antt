-- A list in rows, as it is written.
use Rattle.std.specs.Prelude.{ℕ, ◌+◌, ◌*◌, ◌<◌, List, slice_index_or}

-- the rows before row y of a list in rows of n, and the first x of row y, are as they are to be
pub record Laid {A : Type 0} (n : ℕ) (wanted : ℕ → ℕ → A → Type 0) (default : A) (x y : ℕ) (all : List A) : Type 0 where
  pub rows : (i j : ℕ) → i < n → j < y → wanted i j (slice_index_or all (j * n + i) default)
  pub row : (i : ℕ) → i < x → wanted i y (slice_index_or all (y * n + i) default)
