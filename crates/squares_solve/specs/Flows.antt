-- What flows across steps.
use Rattle.std.specs.Prelude.{◌≡◌, ℕ, suc, ◌^◌, ◌<◌, ◌≤◌, List, ℤ, pos, ◌+ℤ◌, slice_index_or, unsigned_abs}
use Rattle.phase_field.specs.Field.{turns_in}
use Rattle.phase_cost.specs.Steps.{Steps}
use Rattle.squares_cells.specs.Squares.{Across}

-- no more than n flows across any step, either way
pub record Within (n : ℕ) (s : Steps) (a : Across) : Type 0 where
  pub right : (x y : ℕ) → suc x < s.wide → y < s.high → unsigned_abs (a.right x y) ≤ n
  pub below : (x y : ℕ) → x < s.wide → suc y < s.high → unsigned_abs (a.below x y) ≤ n

-- to the first columns of the first rows of a list in rows of n is added what f says, and all else is as it was or no one's
pub record Added (n columns rows : ℕ) (f : ℕ → ℕ → ℤ) (old new : List ℤ) : Type 0 where
  pub is : (x y : ℕ) → x < columns → y < rows → turns_in n new x y ≡ turns_in n old x y +ℤ f x y
  pub few : (k : ℕ) → unsigned_abs (slice_index_or new k (pos 0)) ≤ 2 ^ 50
