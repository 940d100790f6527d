-- What turns cost over a field, and what is said of fields and of turns that cost least.
use Rattle.std.specs.Prelude.{◌≡◌, ℕ, suc, pred, ◌+◌, ◌*◌, ◌<◌, ◌≤◌, ℤ, pos, ◌+ℤ◌, ◌-ℤ◌, ◌*ℤ◌, unsigned_abs}
use Rattle.sums.specs.Sum.{sum_to}
use Rattle.phase_field.specs.Field.{Field, Turns, Half, height, step_right, step_below, expected_right, expected_below, round}

-- By how much each step's height differs from what is expected, whichever way, times the step's price, added over the
-- field: the steps to the right of each row, and the steps down between each row and the next. `pred` is one less.
unfoldable pub cost : Field → Turns → ℕ
cost f t =
    sum_to f.high (λ y. sum_to (pred f.wide) (λ x. f.right x y * unsigned_abs (step_right f t x y -ℤ expected_right f x y)))
    + sum_to (pred f.high) (λ y. sum_to f.wide (λ x. f.below x y * unsigned_abs (step_below f t x y -ℤ expected_below f x y)))

-- no turns whatever cost less
abbrev pub Least : Field → Turns → Type 0
Least f t = (u : Turns) → cost f t ≤ cost f u

-- round every square expected steps come back to where they were: there is no residue
abbrev pub AllComeBack : Field → Type 0
AllComeBack f = (x y : ℕ) → suc x < f.wide → suc y < f.high → round f x y ≡ pos 0

-- every step has a price of at least 1
pub record AllPriced (f : Field) : Type 0 where
  pub right : (x y : ℕ) → suc x < f.wide → y < f.high → 1 ≤ f.right x y
  pub below : (x y : ℕ) → x < f.wide → suc y < f.high → 1 ≤ f.below x y

-- every step of the heights is above minus half a turn and at most half of one
pub record IsSmooth (f : Field) (t : Turns) : Type 0 where
  pub right : (x y : ℕ) → suc x < f.wide → y < f.high → Half f.turn (step_right f t x y)
  pub below : (x y : ℕ) → x < f.wide → suc y < f.high → Half f.turn (step_below f t x y)

-- the heights of u are those of t, but for whole turns over all
abbrev pub IsFound : Field → (t u : Turns) → Type 0
IsFound f t u = (k : ℤ) × ((x y : ℕ) → x < f.wide → y < f.high → height f u x y ≡ height f t x y +ℤ (k *ℤ pos f.turn))
