-- Expected steps by lists.
use Rattle.std.specs.Prelude.{ℕ, ◌+◌, ◌*◌, List, ℤ, pos, slice_index}
use Rattle.phase_field.specs.Field.{turns_in}
use Rattle.phase_cost.specs.Steps.{Steps}
use Rattle.squares_build.specs.declared.steps.Steps.{Steps as Lent}

-- the steps of places so many wide and high that lists say row by row
abbrev pub listed : (wide high : ℕ) → (to_right to_below : List ℤ) → (right below : List ℕ) → Steps
listed w h tr tb rs bs = record {
  wide = w;
  high = h;
  to_right = turns_in w tr;
  to_below = turns_in w tb;
  right = λ x y. slice_index rs (y * w + x);
  below = λ x y. slice_index bs (y * w + x);
}

abbrev pub lent : Lent → Steps
lent s = listed s.wide s.high s.to_right.now s.to_below.now s.right.now s.below.now

-- steps of places so many wide and high, of which nothing else counts
abbrev pub sized : (wide high : ℕ) → Steps
sized w h = record {
  wide = w;
  high = h;
  to_right = λ x y. pos 0;
  to_below = λ x y. pos 0;
  right = λ x y. 0;
  below = λ x y. 0;
}
