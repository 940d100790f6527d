-- Expected steps that come from anywhere, what heights cost over them, and their residues.
use Rattle.std.specs.Prelude.{◌≡◌, ℕ, suc, pred, ◌+◌, ◌*◌, ◌<◌, List, ℤ, pos, ◌+ℤ◌, ◌-ℤ◌, unsigned_abs}
use Rattle.sums.specs.Sum.{sum_to, sum_ℤ}
use Rattle.phase_field.specs.Field.{Field, expected_right, expected_below, turns_in, wrap_count}

-- Expected steps and their prices, with no word of what was seen: `to_right x y` is expected from (x, y) to (x + 1, y),
-- `to_below x y` from (x, y) to (x, y + 1).
pub record Steps : Type 0 where
  pub wide : ℕ
  pub high : ℕ
  pub to_right : ℕ → ℕ → ℤ
  pub to_below : ℕ → ℕ → ℤ
  pub right : ℕ → ℕ → ℕ
  pub below : ℕ → ℕ → ℕ

abbrev pub Heights : Type 0
Heights = ℕ → ℕ → ℤ

-- by how much a step of heights is more than what is expected
unfoldable pub more_right : Steps → Heights → ℕ → ℕ → ℤ
more_right s h x y = (h (suc x) y -ℤ h x y) -ℤ s.to_right x y

unfoldable pub more_below : Steps → Heights → ℕ → ℕ → ℤ
more_below s h x y = (h x (suc y) -ℤ h x y) -ℤ s.to_below x y

-- all of a, over the steps to the right of a field so wide and high, and of b, over its steps down
unfoldable pub all_steps : (wide high : ℕ) → (a b : ℕ → ℕ → ℕ) → ℕ
all_steps w h a b = sum_to h (λ y. sum_to (pred w) (λ x. a x y)) + sum_to (pred h) (λ y. sum_to w (λ x. b x y))

unfoldable pub heights_cost : Steps → Heights → ℕ
heights_cost s h =
    all_steps s.wide s.high (λ x y. s.right x y * unsigned_abs (more_right s h x y)) (λ x y. s.below x y * unsigned_abs (more_below s h x y))

-- by how much expected steps don't come back round the square whose first place is (x, y): right and down against down and right
unfoldable pub residue : Steps → ℕ → ℕ → ℤ
residue s x y = (s.to_right x y +ℤ s.to_below (suc x) y) -ℤ (s.to_below x y +ℤ s.to_right x (suc y))

-- round every square they come back to where they were
abbrev pub NoResidues : Steps → Type 0
NoResidues s = (x y : ℕ) → suc x < s.wide → suc y < s.high → residue s x y ≡ pos 0

-- the expected steps of a field
unfoldable pub steps_of : Field → Steps
steps_of f = record {
  wide = f.wide;
  high = f.high;
  to_right = expected_right f;
  to_below = expected_below f;
  right = f.right;
  below = f.below;
}

-- The same in whole turns: the turns of the places are its heights, and a step of turns is expected to be as many as
-- what is expected is more than the difference of what was seen.
unfoldable pub turn_steps : Field → Steps
turn_steps f = record {
  wide = f.wide;
  high = f.high;
  to_right = λ x y. wrap_count f.turn (pos (f.seen (suc x) y) -ℤ pos (f.seen x y));
  to_below = λ x y. wrap_count f.turn (pos (f.seen x (suc y)) -ℤ pos (f.seen x y));
  right = f.right;
  below = f.below;
}

-- numbers whose steps to the right are dr, and whose steps down are db where all comes back: down the first column, then along the row
unfoldable pub integral : (dr db : ℕ → ℕ → ℤ) → ℕ → ℕ → ℤ
integral dr db x y = sum_ℤ y (λ j. db 0 j) +ℤ sum_ℤ x (λ i. dr i y)

-- steps that lists say row by row, over a field and its prices
unfoldable pub steps_in : Field → (right below : List ℤ) → Steps
steps_in f right below = record {
  wide = f.wide;
  high = f.high;
  to_right = turns_in f.wide right;
  to_below = turns_in f.wide below;
  right = f.right;
  below = f.below;
}
