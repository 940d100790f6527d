-- What is expected of a step: where it lies, and by how many turns it differs.
use Rattle.std.proofs.Common.{◌≡◌, ℕ, zero, suc, ◌<◌, ◌≤◌, Bool, true, false, cond, ◌⊎◌, ℤ, pos, negsuc, ◌+ℤ◌, ◌-ℤ◌, ◌*ℤ◌, neg_ℤ, nat_abs, ◌≤ℤ◌, ◌<ℤ◌, refl, ◌∙◌, inl, inr, mul-le-mul_right, arith}
use Rattle.std.specs.Prelude.{int_lt, int_le}
use Rattle.std.proofs.lemmas.Int.{ints, by_lt_z}
use Rattle.sums.proofs.Ring.{ring}
use Rattle.phase_field.specs.Field.{Field, Fit, Half, Turns, near, wrap_count, height, step_right, step_below, expected_right, expected_below}
use Rattle.phase_field.specs.Theorems.{NearLies, ExpectedLies, WholeTurns, OneTurn, HalfUpward, NearUnique, NearTurns}

-- ---- tests of two numbers

lt_yes : (a b : ℤ) → a <ℤ b → int_lt a b ≡ true
lt_yes a b h = grind (arith, ints)

lt_no : (a b : ℤ) → b ≤ℤ a → int_lt a b ≡ false
lt_no a b h = grind (arith, ints)

le_yes : (a b : ℤ) → a ≤ℤ b → int_le a b ≡ true
le_yes a b h = grind (arith, ints)

le_no : (a b : ℤ) → b <ℤ a → int_le a b ≡ false
le_no a b h = grind (arith, ints)

-- ---- the three cases

-- more than half a turn
pub near_high : (turn : ℕ) (z : ℤ) → pos turn <ℤ (pos 2 *ℤ z) → near turn z ≡ z -ℤ pos turn
unfolding near
near_high turn z h = rw (lt_yes (pos turn) (pos 2 *ℤ z) h)

-- minus half a turn or less
pub near_low : (turn : ℕ) (z : ℤ) → (pos 2 *ℤ z) ≤ℤ neg_ℤ (pos turn) → near turn z ≡ z +ℤ pos turn
unfolding near
near_low turn z h = rw (lt_no (pos turn) (pos 2 *ℤ z) (omega (arith, ints)), le_yes (pos 2 *ℤ z) (neg_ℤ (pos turn)) h)

-- neither
pub near_same : (turn : ℕ) (z : ℤ) → neg_ℤ (pos turn) <ℤ (pos 2 *ℤ z) → (pos 2 *ℤ z) ≤ℤ pos turn → near turn z ≡ z
unfolding near
near_same turn z l h = rw (lt_no (pos turn) (pos 2 *ℤ z) h, le_no (pos 2 *ℤ z) (neg_ℤ (pos turn)) l)

-- the same of the turns that are added
pub wrap_high : (turn : ℕ) (z : ℤ) → pos turn <ℤ (pos 2 *ℤ z) → wrap_count turn z ≡ negsuc 0
unfolding wrap_count
wrap_high turn z h = rw (lt_yes (pos turn) (pos 2 *ℤ z) h)

pub wrap_low : (turn : ℕ) (z : ℤ) → (pos 2 *ℤ z) ≤ℤ neg_ℤ (pos turn) → wrap_count turn z ≡ pos 1
unfolding wrap_count
wrap_low turn z h = rw (lt_no (pos turn) (pos 2 *ℤ z) (omega (arith, ints)), le_yes (pos 2 *ℤ z) (neg_ℤ (pos turn)) h)

pub wrap_same : (turn : ℕ) (z : ℤ) → neg_ℤ (pos turn) <ℤ (pos 2 *ℤ z) → (pos 2 *ℤ z) ≤ℤ pos turn → wrap_count turn z ≡ pos 0
unfolding wrap_count
wrap_same turn z l h = rw (lt_no (pos turn) (pos 2 *ℤ z) h, le_no (pos 2 *ℤ z) (neg_ℤ (pos turn)) l)

-- one of the three, with what is known in it
near_cases : {P : Type 0} (turn : ℕ) (z : ℤ) →
    (pos turn <ℤ (pos 2 *ℤ z) → near turn z ≡ z -ℤ pos turn → P) → ((pos 2 *ℤ z) ≤ℤ neg_ℤ (pos turn) → near turn z ≡ z +ℤ pos turn → P) →
    (neg_ℤ (pos turn) <ℤ (pos 2 *ℤ z) → (pos 2 *ℤ z) ≤ℤ pos turn → near turn z ≡ z → P) → P
near_cases turn z a b c =
    by_lt_z (pos turn) (pos 2 *ℤ z) (λ h. a h (near_high turn z h))
    (λ h. by_lt_z (neg_ℤ (pos turn)) (pos 2 *ℤ z) (λ l. c l h (near_same turn z l h)) (λ l. b l (near_low turn z l)))

-- the difference and so many turns
pub near_turns : NearTurns
unfolding near wrap_count
near_turns turn z = by (int_lt (pos turn) (pos 2 *ℤ z)) (int_le (pos 2 *ℤ z) (neg_ℤ (pos turn)))
  where
    by : (a b : Bool) → cond a (z -ℤ pos turn) (cond b (z +ℤ pos turn) z) ≡ z +ℤ (cond a (negsuc 0) (cond b (pos 1) (pos 0)) *ℤ pos turn)
    by true b = omega (arith, ints)
    by false true = omega (arith, ints)
    by false false = omega (arith, ints)

pub wrap_count_small : (turn : ℕ) (z : ℤ) → nat_abs (wrap_count turn z) ≤ 1
unfolding wrap_count
wrap_count_small turn z = by (int_lt (pos turn) (pos 2 *ℤ z)) (int_le (pos 2 *ℤ z) (neg_ℤ (pos turn)))
  where
    by : (a b : Bool) → nat_abs (cond a (negsuc 0) (cond b (pos 1) (pos 0))) ≤ 1
    by true b = omega arith
    by false true = omega arith
    by false false = omega arith

-- ---- where it lies

pub near_lies : NearLies
near_lies turn z l h =
    near_cases turn z (λ p e. (record { above = omega (arith, ints); most = omega (arith, ints) }, inl e))
    (λ p e. (record { above = omega (arith, ints); most = omega (arith, ints) }, inr (inr e)))
    (λ p q e. (record { above = omega (arith, ints); most = omega (arith, ints) }, inr (inl e)))

-- of two numbers that were seen
pub near_half : (turn a b : ℕ) → a < turn → b < turn → Half turn (near turn (pos a -ℤ pos b))
near_half turn a b l h = (near_lies turn (pos a -ℤ pos b) (omega (arith, ints)) (omega (arith, ints))).0

pub expected_lies : ExpectedLies
expected_lies f x y fit =
    (λ l h. near_half f.turn (f.seen (suc x) y) (f.seen x y) (fit.small (suc x) y l h) (fit.small x y (omega arith) h), λ l h. near_half f.turn (f.seen x (suc y)) (f.seen x y) (fit.small x (suc y) l h) (fit.small x y l (omega arith)))

-- ---- by how many turns

-- a step of heights, over plain numbers: t and s turns where a and b were seen
pub step_turns : (turn : ℕ) (a b s t : ℤ) →
    ((a +ℤ (t *ℤ pos turn)) -ℤ (b +ℤ (s *ℤ pos turn))) -ℤ near turn (a -ℤ b) ≡ ((t -ℤ s) -ℤ wrap_count turn (a -ℤ b)) *ℤ pos turn
step_turns turn a b s t = simp ring (omega (arith, ints, near_turns turn (a -ℤ b)))

pub whole_turns : WholeTurns
unfolding step_right step_below height
whole_turns f t x y =
    let at : (x' y' : ℕ) → (k : ℤ) × (((pos (f.seen x' y') +ℤ (t x' y' *ℤ pos f.turn)) -ℤ (pos (f.seen x y) +ℤ (t x y *ℤ pos f.turn))) -ℤ near f.turn (pos (f.seen x' y') -ℤ pos (f.seen x y)) ≡ k *ℤ pos f.turn) =
    λ x' y'. ((t x' y' -ℤ t x y) -ℤ wrap_count f.turn (pos (f.seen x' y') -ℤ pos (f.seen x y)), step_turns f.turn (pos (f.seen x' y')) (pos (f.seen x y)) (t x y) (t x' y')) in
    (at (suc x) y, at x (suc y))

-- less than two turns either way are one turn at most
pub turns_below_two : (turn : ℕ) (r k : ℤ) → r ≡ k *ℤ pos turn → r <ℤ (pos 2 *ℤ pos turn) → neg_ℤ (pos 2 *ℤ pos turn) <ℤ r →
    (r ≡ pos 0) ⊎ ((r ≡ pos turn) ⊎ (r +ℤ pos turn ≡ pos 0))
turns_below_two turn r (pos zero) e l h = inl (omega (arith, ints))
turns_below_two turn r (pos (suc zero)) e l h = inr (inl (omega (arith, ints)))
turns_below_two turn r (pos (suc (suc n))) e l h = absurd (omega (arith, ints, mul-le-mul_right {m = 2} {n = suc (suc n)} turn (omega arith)))
turns_below_two turn r (negsuc zero) e l h = inr (inr (omega (arith, ints)))
turns_below_two turn r (negsuc (suc n)) e l h = absurd (omega (arith, ints, mul-le-mul_right {m = 2} {n = suc (suc n)} turn (omega arith)))

-- round a square over plain numbers: what was seen at the four places falls out
pub round_turns : (turn : ℕ) (a b c d : ℤ) →
    (near turn (b -ℤ a) +ℤ near turn (d -ℤ b)) -ℤ (near turn (c -ℤ a) +ℤ near turn (d -ℤ c)) ≡
    ((wrap_count turn (b -ℤ a) +ℤ wrap_count turn (d -ℤ b)) -ℤ (wrap_count turn (c -ℤ a) +ℤ wrap_count turn (d -ℤ c))) *ℤ pos turn
round_turns turn a b c d =
    falls_out a b c d _ _ _ _ _ _ _ _ (near_turns turn (b -ℤ a)) (near_turns turn (d -ℤ b)) (near_turns turn (c -ℤ a)) (near_turns turn (d -ℤ c)) ∙ simp ring
  where
    falls_out : (a b c d e f g h k l m n : ℤ) → e ≡ (b -ℤ a) +ℤ k → f ≡ (d -ℤ b) +ℤ l → g ≡ (c -ℤ a) +ℤ m → h ≡ (d -ℤ c) +ℤ n → (e +ℤ f) -ℤ (g +ℤ h) ≡ (k +ℤ l) -ℤ (m +ℤ n)
    falls_out a b c d e f g h k l m n p q r s = omega (arith, ints)

four_halves : (turn : ℕ) (a b c d : ℤ) → Half turn a → Half turn b → Half turn c → Half turn d →
    (((a +ℤ b) -ℤ (c +ℤ d)) <ℤ (pos 2 *ℤ pos turn)) × (neg_ℤ (pos 2 *ℤ pos turn) <ℤ ((a +ℤ b) -ℤ (c +ℤ d)))
four_halves turn a b c d p q r s = (omega (arith, ints), omega (arith, ints))

-- round the square of the numbers a and b over c and d
pub round_one_turn : (turn a b c d : ℕ) → a < turn → b < turn → c < turn → d < turn →
    let r : ℤ = (near turn (pos b -ℤ pos a) +ℤ near turn (pos d -ℤ pos b)) -ℤ (near turn (pos c -ℤ pos a) +ℤ near turn (pos d -ℤ pos c)) in
    (r ≡ pos 0) ⊎ ((r ≡ pos turn) ⊎ (r +ℤ pos turn ≡ pos 0))
round_one_turn turn a b c d la lb lc ld =
    let lies = four_halves turn (near turn (pos b -ℤ pos a)) (near turn (pos d -ℤ pos b)) (near turn (pos c -ℤ pos a)) (near turn (pos d -ℤ pos c))
    (near_half turn b a lb la) (near_half turn d b ld lb) (near_half turn c a lc la) (near_half turn d c ld lc) in
    turns_below_two turn _ _ (round_turns turn (pos a) (pos b) (pos c) (pos d)) lies.0 lies.1

pub one_turn : OneTurn
one_turn f x y fit l h =
    let ll : x < f.wide = omega arith in
    let hh : y < f.high = omega arith in
    round_one_turn f.turn (f.seen x y) (f.seen (suc x) y) (f.seen x (suc y)) (f.seen (suc x) (suc y))
    (fit.small x y ll hh) (fit.small (suc x) y l hh) (fit.small x (suc y) ll h) (fit.small (suc x) (suc y) l h)

pub half_upward : HalfUpward
unfolding near
half_upward rs bs = (refl, refl, refl, refl)

-- ---- only one number within half a turn

-- two numbers within half a turn that differ by whole turns are one
pub half_unique : (turn : ℕ) (s e k : ℤ) → Half turn s → Half turn e → s ≡ e +ℤ (k *ℤ pos turn) → s ≡ e
half_unique turn s e (pos zero) p q h = omega (arith, ints)
half_unique turn s e (pos (suc n)) p q h = absurd (omega (arith, ints, mul-le-mul_right {m = 1} {n = suc n} turn (omega arith)))
half_unique turn s e (negsuc n) p q h = absurd (omega (arith, ints, mul-le-mul_right {m = 1} {n = suc n} turn (omega arith)))

pub near_unique : NearUnique
near_unique turn z s k l h p e = half_unique turn s (near turn z) k p (near_lies turn z l h).0 e

-- a step of heights within half a turn is the expected one
pub step_right_is : (f : Field) (t : Turns) (x y : ℕ) → Fit f → suc x < f.wide → y < f.high → Half f.turn (step_right f t x y) → step_right f t x y ≡ expected_right f x y
step_right_is f t x y fit l h p =
    let w = (whole_turns f t x y).0 in
    half_unique f.turn (step_right f t x y) (expected_right f x y) w.0 p ((expected_lies f x y fit).0 l h) (omega (arith, ints, w.1))

pub step_below_is : (f : Field) (t : Turns) (x y : ℕ) → Fit f → x < f.wide → suc y < f.high → Half f.turn (step_below f t x y) → step_below f t x y ≡ expected_below f x y
step_below_is f t x y fit l h p =
    let w = (whole_turns f t x y).1 in
    half_unique f.turn (step_below f t x y) (expected_below f x y) w.0 p ((expected_lies f x y fit).1 l h) (omega (arith, ints, w.1))
