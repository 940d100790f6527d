-- What is true of expected steps. The statements are types, each the contract of a function of its name.
use Rattle.std.specs.Prelude.{◌≡◌, ℕ, suc, ◌<◌, ◌⊎◌, List, [], ◌∷◌, ℤ, pos, ◌+ℤ◌, ◌-ℤ◌, ◌*ℤ◌, neg_ℤ, ◌<ℤ◌}
use Rattle.phase_field.specs.Field.{Field, Fit, Half, Turns, near, wrap_count, step_right, step_below, expected_right, expected_below, round, field_in}

-- what is expected of a difference of less than a turn lies within half a turn, and is the difference but for one turn at most
abbrev pub NearLies : Type 0
NearLies =
    (turn : ℕ) (z : ℤ) → neg_ℤ (pos turn) <ℤ z → z <ℤ pos turn →
    Half turn (near turn z) × ((near turn z ≡ z -ℤ pos turn) ⊎ ((near turn z ≡ z) ⊎ (near turn z ≡ z +ℤ pos turn)))

-- so do the expected steps of a field
abbrev pub ExpectedLies : Type 0
ExpectedLies =
    (f : Field) (x y : ℕ) → Fit f →
    (suc x < f.wide → y < f.high → Half f.turn (expected_right f x y)) × (x < f.wide → suc y < f.high → Half f.turn (expected_below f x y))

-- whatever the turns, steps differ from what is expected by whole turns
abbrev pub WholeTurns : Type 0
WholeTurns =
    (f : Field) (t : Turns) (x y : ℕ) →
    ((k : ℤ) × (step_right f t x y -ℤ expected_right f x y ≡ k *ℤ pos f.turn)) × ((k : ℤ) × (step_below f t x y -ℤ expected_below f x y ≡ k *ℤ pos f.turn))

-- round a square it is nothing, a turn more or a turn less
abbrev pub OneTurn : Type 0
OneTurn =
    (f : Field) (x y : ℕ) → Fit f → suc x < f.wide → suc y < f.high →
    (round f x y ≡ pos 0) ⊎ ((round f x y ≡ pos f.turn) ⊎ (round f x y +ℤ pos f.turn ≡ pos 0))

-- half a turn counts upward, whichever way it was seen: at turn 10, from 0 to 5 and from 5 to 0, to the right and down
abbrev pub HalfUpward : Type 0
HalfUpward =
    (rs bs : List ℕ) →
    (expected_right (field_in 2 1 10 (0 ∷ 5 ∷ []) rs bs) 0 0 ≡ pos 5) × (expected_right (field_in 2 1 10 (5 ∷ 0 ∷ []) rs bs) 0 0 ≡ pos 5) ×
    (expected_below (field_in 1 2 10 (0 ∷ 5 ∷ []) rs bs) 0 0 ≡ pos 5) × (expected_below (field_in 1 2 10 (5 ∷ 0 ∷ []) rs bs) 0 0 ≡ pos 5)

-- a number within half a turn that differs from what is expected by whole turns is what is expected
abbrev pub NearUnique : Type 0
NearUnique =
    (turn : ℕ) (z s k : ℤ) → neg_ℤ (pos turn) <ℤ z → z <ℤ pos turn → Half turn s → s ≡ near turn z +ℤ (k *ℤ pos turn) → s ≡ near turn z

-- what is expected of a difference is the difference and as many turns as it is wrapped by
abbrev pub NearTurns : Type 0
NearTurns = (turn : ℕ) (z : ℤ) → near turn z ≡ z +ℤ (wrap_count turn z *ℤ pos turn)
