-- A field of numbers that are known but for whole turns, and what is expected of its steps.
use Rattle.std.specs.Prelude.{ℕ, suc, ◌+◌, ◌*◌, ◌<◌, ◌≤◌, if◌then◌else◌, List, ℤ, pos, negsuc, ◌+ℤ◌, ◌-ℤ◌, ◌*ℤ◌, neg_ℤ, ◌≤ℤ◌, ◌<ℤ◌, int_lt, int_le, slice_index, slice_index_or}

-- A field so many places wide and high. Place (x, y) is in column x from the left and row y from the top. What was seen
-- at a place, its wrapped phase, lies from 0 up to but not a turn. `right x y` is the price of the step from (x, y) to
-- (x + 1, y), and `below x y` that of the step to (x, y + 1); prices of steps beyond the edge don't count.
pub record Field : Type 0 where
  pub wide : ℕ
  pub high : ℕ
  pub turn : ℕ
  pub seen : ℕ → ℕ → ℕ
  pub right : ℕ → ℕ → ℕ
  pub below : ℕ → ℕ → ℕ

-- a field that can be worked on: a turn is at least 2, there is a place, and what was seen in the field lies below a turn
pub record Fit (f : Field) : Type 0 where
  pub turn_2 : 2 ≤ f.turn
  pub wide_1 : 1 ≤ f.wide
  pub high_1 : 1 ≤ f.high
  pub small : (x y : ℕ) → x < f.wide → y < f.high → f.seen x y < f.turn

-- a whole number of turns for each place, which may be below 0
abbrev pub Turns : Type 0
Turns = ℕ → ℕ → ℤ

-- what was seen and so many turns: the unwrapped phase
unfoldable pub height : Field → Turns → ℕ → ℕ → ℤ
height f t x y = pos (f.seen x y) +ℤ (t x y *ℤ pos f.turn)

unfoldable pub step_right : Field → Turns → ℕ → ℕ → ℤ
step_right f t x y = height f t (suc x) y -ℤ height f t x y

unfoldable pub step_below : Field → Turns → ℕ → ℕ → ℤ
step_below f t x y = height f t x (suc y) -ℤ height f t x y

-- the wrapped difference: a turn less than z where z is more than half a turn, a turn more where it is minus half a turn or less
unfoldable pub near : ℕ → ℤ → ℤ
near turn z =
    if int_lt (pos turn) (pos 2 *ℤ z) then z -ℤ pos turn
    else (if int_le (pos 2 *ℤ z) (neg_ℤ (pos turn)) then z +ℤ pos turn else z)

-- how many turns that adds
unfoldable pub wrap_count : ℕ → ℤ → ℤ
wrap_count turn z =
    if int_lt (pos turn) (pos 2 *ℤ z) then negsuc 0
    else (if int_le (pos 2 *ℤ z) (neg_ℤ (pos turn)) then pos 1 else pos 0)

-- above minus half a turn, and half a turn at most
pub record Half (turn : ℕ) (s : ℤ) : Type 0 where
  pub above : neg_ℤ (pos turn) <ℤ (pos 2 *ℤ s)
  pub most : (pos 2 *ℤ s) ≤ℤ pos turn

-- the step that one expects of what was seen alone
abbrev pub expected_right : Field → ℕ → ℕ → ℤ
expected_right f x y = near f.turn (pos (f.seen (suc x) y) -ℤ pos (f.seen x y))

abbrev pub expected_below : Field → ℕ → ℕ → ℤ
expected_below f x y = near f.turn (pos (f.seen x (suc y)) -ℤ pos (f.seen x y))

-- by how much expected steps don't come back round the square of four places whose first is (x, y): right and down against down and right.
-- This is the residue of the square, in units of what was seen.
abbrev pub round : Field → ℕ → ℕ → ℤ
round f x y = (expected_right f x y +ℤ expected_below f (suc x) y) -ℤ (expected_below f x y +ℤ expected_right f x (suc y))

-- the field that lists say row by row from the upper left: what was seen, prices to the right, prices down
abbrev pub field_in : (wide high turn : ℕ) → (seen right below : List ℕ) → Field
field_in w h t ss rs bs = record {
  wide = w;
  high = h;
  turn = t;
  seen = λ x y. slice_index ss (y * w + x);
  right = λ x y. slice_index rs (y * w + x);
  below = λ x y. slice_index bs (y * w + x);
}

-- turns that a list says row by row
unfoldable pub turns_in : ℕ → List ℤ → Turns
turns_in w r x y = slice_index_or r (y * w + x) (pos 0)
