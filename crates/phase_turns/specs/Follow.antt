-- Steps in whole turns, and numbers that follow them.
use Rattle.std.specs.Prelude.{◌≡◌, ℕ, suc, ◌+◌, ◌*◌, ◌^◌, ◌<◌, ◌≤◌, List, length, ℤ, pos, ◌+ℤ◌, slice_index_or, unsigned_abs}
use Rattle.sums.specs.Sum.{sum_ℤ}
use Rattle.phase_field.specs.Field.{Field, turns_in}
use Rattle.phase_field.specs.Model.{HasRight, HasBelow, turns_right_from, turns_below_from}
use Rattle.phase_cost.specs.Steps.{integral}

-- a list of steps, none of more turns than of which the cost is told: twice as many as a field has places, and one that is expected
abbrev pub StepsSmall : List ℤ → Type 0
StepsSmall ds = (k : ℕ) → unsigned_abs (slice_index_or ds k (pos 0)) ≤ 8193

-- of up to so many turns, any steps of 512 by 512 places can be followed
abbrev pub StepsFew : List ℤ → Type 0
StepsFew ds = (k : ℕ) → unsigned_abs (slice_index_or ds k (pos 0)) ≤ 2 ^ 50

-- no number of a list is more than m, either way
abbrev pub AllWithin : ℕ → List ℤ → Type 0
AllWithin m list = (k : ℕ) → unsigned_abs (slice_index_or list k (pos 0)) ≤ m

-- no step between places so many wide and high is of more than m turns, either way
pub record StepsWithin (m wide high : ℕ) (right below : List ℤ) : Type 0 where
  pub to_right : (x y : ℕ) → suc x < wide → y < high → unsigned_abs (turns_in wide right x y) ≤ m
  pub to_below : (x y : ℕ) → x < wide → suc y < high → unsigned_abs (turns_in wide below x y) ≤ m

-- a row that follows steps from its first number on
pub record Follows (start : ℤ) (ds us : List ℤ) : Type 0 where
  pub at : (x : ℕ) → x < length us → slice_index_or us x (pos 0) ≡ start +ℤ sum_ℤ x (λ i. slice_index_or ds i (pos 0))

-- a room that follows steps down its first column and along each row; where no step is of more than m turns, no place has more than m for each
-- column and each row
pub record Integrated (wide high : ℕ) (right below room : List ℤ) : Type 0 where
  pub at : (x y : ℕ) → x < wide → y < high → turns_in wide room x y ≡ integral (turns_in wide right) (turns_in wide below) x y
  pub small : (m : ℕ) → StepsWithin m wide high right below → (k : ℕ) → k < wide * high → unsigned_abs (slice_index_or room k (pos 0)) ≤ (wide + high) * m

-- the steps that one expects of a field, in turns, and 0 where there are none
pub record Expected (f : Field) (right below : List ℤ) : Type 0 where
  pub right_at : (p : ℕ) → HasRight f p → slice_index_or right p (pos 0) ≡ turns_right_from f p
  pub below_at : (p : ℕ) → HasBelow f p → slice_index_or below p (pos 0) ≡ turns_below_from f p
  pub right_none : (p : ℕ) → (HasRight f p → ⊥) → slice_index_or right p (pos 0) ≡ pos 0
  pub below_none : (p : ℕ) → (HasBelow f p → ⊥) → slice_index_or below p (pos 0) ≡ pos 0
  pub right_small : (p : ℕ) → unsigned_abs (slice_index_or right p (pos 0)) ≤ 1
  pub below_small : (p : ℕ) → unsigned_abs (slice_index_or below p (pos 0)) ≤ 1
