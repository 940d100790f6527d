-- Laws of what turns cost: the cost over expected steps, in whole turns, of turns that agree, row by row.
use Rattle.std.proofs.Common.{◌≡◌, ℕ, suc, pred, ◌+◌, ◌*◌, ◌<◌, ◌≤◌, ℤ, pos, ◌+ℤ◌, ◌-ℤ◌, ◌*ℤ◌, nat_abs, sym, refl, ap, ◌∙◌, subst, ap₂, mul_assoc, mul_comm, mul-le-mul, mul-le-mul_left, mul-add, arith}
use Rattle.std.proofs.lemmas.Int.{ints}
use Rattle.sums.specs.Sum.{sum_to}
use Rattle.sums.proofs.Ring.{nat_abs_mul}
use Rattle.sums.proofs.Table.{table_ext, table_le, table_zero, table_add, table_scale, table_zero_each, table_at_most}
use Rattle.phase_field.specs.Field.{Field, Turns, height, step_right, step_below, expected_right, expected_below, near}
use Rattle.phase_field.specs.Field.{wrap_count}
use Rattle.phase_field.proofs.Near.{step_turns}
use Rattle.phase_cost.specs.Cost.{cost, Least}
use Rattle.phase_cost.specs.Steps.{Steps, Heights, more_right, more_below, all_steps, heights_cost, steps_of, turn_steps}

-- ---- over all steps of a field, for plain functions

pub all_steps_le : (w h : ℕ) (a b c d : ℕ → ℕ → ℕ) → ((x y : ℕ) → suc x < w → y < h → a x y ≤ c x y) → ((x y : ℕ) → x < w → suc y < h → b x y ≤ d x y) →
    all_steps w h a b ≤ all_steps w h c d
unfolding all_steps
all_steps_le w h a b c d p q =
    omega (arith, table_le (pred w) h a c (λ x y k l. p x y (omega arith) l), table_le w (pred h) b d (λ x y k l. q x y k (omega arith)))

pub all_steps_ext : (w h : ℕ) (a b c d : ℕ → ℕ → ℕ) → ((x y : ℕ) → suc x < w → y < h → a x y ≡ c x y) → ((x y : ℕ) → x < w → suc y < h → b x y ≡ d x y) →
    all_steps w h a b ≡ all_steps w h c d
unfolding all_steps
all_steps_ext w h a b c d p q =
    omega (arith, table_ext (pred w) h a c (λ x y k l. p x y (omega arith) l), table_ext w (pred h) b d (λ x y k l. q x y k (omega arith)))

pub all_steps_add : (w h : ℕ) (a b c d : ℕ → ℕ → ℕ) → all_steps w h (λ x y. a x y + c x y) (λ x y. b x y + d x y) ≡ all_steps w h a b + all_steps w h c d
unfolding all_steps
all_steps_add w h a b c d = omega (arith, table_add (pred w) h a c, table_add w (pred h) b d)

pub all_steps_scale : (w h k : ℕ) (a b : ℕ → ℕ → ℕ) → all_steps w h (λ x y. k * a x y) (λ x y. k * b x y) ≡ k * all_steps w h a b
unfolding all_steps
all_steps_scale w h k a b =
    omega (arith, table_scale (pred w) h k a, table_scale w (pred h) k b, mul-add k (sum_to h (λ y. sum_to (pred w) (λ x. a x y))) (sum_to (pred h) (λ y. sum_to w (λ x. b x y))))

pub all_steps_zero : (w h : ℕ) (a b : ℕ → ℕ → ℕ) → ((x y : ℕ) → suc x < w → y < h → a x y ≡ 0) → ((x y : ℕ) → x < w → suc y < h → b x y ≡ 0) → all_steps w h a b ≡ 0
unfolding all_steps
all_steps_zero w h a b p q =
    omega (arith, table_zero (pred w) h a (λ x y k l. p x y (omega arith) l), table_zero w (pred h) b (λ x y k l. q x y k (omega arith)))

pub all_steps_zero_each : (w h : ℕ) (a b : ℕ → ℕ → ℕ) → all_steps w h a b ≡ 0 →
    ((x y : ℕ) → suc x < w → y < h → a x y ≡ 0) × ((x y : ℕ) → x < w → suc y < h → b x y ≡ 0)
unfolding all_steps
all_steps_zero_each w h a b e =
    (λ x y k l. table_zero_each (pred w) h a (omega arith) x y (omega arith) l, λ x y k l. table_zero_each w (pred h) b (omega arith) x y k (omega arith))

pub all_steps_at_most : (w h k : ℕ) (a b : ℕ → ℕ → ℕ) → ((x y : ℕ) → suc x < w → y < h → a x y ≤ k) → ((x y : ℕ) → x < w → suc y < h → b x y ≤ k) →
    all_steps w h a b ≤ h * (pred w * k) + pred h * (w * k)
unfolding all_steps
all_steps_at_most w h k a b p q =
    omega (arith, table_at_most (pred w) h k a (λ x y g l. p x y (omega arith) l), table_at_most w (pred h) k b (λ x y g l. q x y g (omega arith)))

-- ---- the cost over expected steps

pub cost_is : (f : Field) (t : Turns) → cost f t ≡ heights_cost (steps_of f) (height f t)
unfolding cost heights_cost all_steps steps_of more_right more_below step_right step_below
cost_is f t = refl

-- steps over fields of one size, whose prices and differences go along
pub heights_cost_le : (s r : Steps) (h g : Heights) → s.wide ≡ r.wide → s.high ≡ r.high →
    ((x y : ℕ) → suc x < s.wide → y < s.high → s.right x y * nat_abs (more_right s h x y) ≤ r.right x y * nat_abs (more_right r g x y)) →
    ((x y : ℕ) → x < s.wide → suc y < s.high → s.below x y * nat_abs (more_below s h x y) ≤ r.below x y * nat_abs (more_below r g x y)) →
    heights_cost s h ≤ heights_cost r g
unfolding heights_cost
heights_cost_le s r h g w k p q =
    let a : ℕ → ℕ → ℕ = λ x y. s.right x y * nat_abs (more_right s h x y) in
    let b : ℕ → ℕ → ℕ = λ x y. s.below x y * nat_abs (more_below s h x y) in
    let c : ℕ → ℕ → ℕ = λ x y. r.right x y * nat_abs (more_right r g x y) in
    let d : ℕ → ℕ → ℕ = λ x y. r.below x y * nat_abs (more_below r g x y) in
    subst (λ (n : ℕ). all_steps s.wide s.high a b ≤ all_steps n r.high c d) w
    (subst (λ (n : ℕ). all_steps s.wide s.high a b ≤ all_steps s.wide n c d) k (all_steps_le s.wide s.high a b c d p q))

-- heights that agree on the places
pub heights_cost_ext : (s : Steps) (h g : Heights) → ((x y : ℕ) → x < s.wide → y < s.high → h x y ≡ g x y) → heights_cost s h ≡ heights_cost s g
unfolding heights_cost more_right more_below
heights_cost_ext s h g e =
    all_steps_ext s.wide s.high _ _ _ _
    (λ x y k l. ap₂ (λ (a b : ℤ). s.right x y * nat_abs ((a -ℤ b) -ℤ s.to_right x y)) (e (suc x) y k l) (e x y (omega arith) l))
    (λ x y k l. ap₂ (λ (a b : ℤ). s.below x y * nat_abs ((a -ℤ b) -ℤ s.to_below x y)) (e x (suc y) k l) (e x y k (omega arith)))

-- all raised by as much
pub heights_cost_shift : (s : Steps) (h : Heights) (c : ℤ) → heights_cost s (λ x y. h x y +ℤ c) ≡ heights_cost s h
unfolding heights_cost more_right more_below
heights_cost_shift s h c =
    all_steps_ext s.wide s.high _ _ _ _ (λ x y k l. ap (λ (a : ℤ). s.right x y * nat_abs (a -ℤ s.to_right x y)) (apart (h (suc x) y) (h x y)))
    (λ x y k l. ap (λ (a : ℤ). s.below x y * nat_abs (a -ℤ s.to_below x y)) (apart (h x (suc y)) (h x y)))
  where
    apart : (a b : ℤ) → (a +ℤ c) -ℤ (b +ℤ c) ≡ a -ℤ b
    apart a b = omega (arith, ints)

-- ---- the cost in whole turns

priced_turns : (p turn : ℕ) (k : ℤ) → p * nat_abs (k *ℤ pos turn) ≡ turn * (p * nat_abs k)
priced_turns p turn k =
    ap (λ (z : ℕ). p * z) (nat_abs_mul k (pos turn)) ∙ sym (mul_assoc p (nat_abs k) turn) ∙ mul_comm (p * nat_abs k) turn

pub cost_turns : (f : Field) (t : Turns) → cost f t ≡ f.turn * heights_cost (turn_steps f) t
unfolding heights_cost steps_of turn_steps more_right more_below height
cost_turns f t =
    cost_is f t ∙ all_steps_ext f.wide f.high _ _ _ _ (λ x y k l. at (f.right x y) (suc x) y x y) (λ x y k l. at (f.below x y) x (suc y) x y)
    ∙ all_steps_scale f.wide f.high f.turn _ _
  where
    at : (p x' y' x y : ℕ) →
        p * nat_abs (((pos (f.seen x' y') +ℤ (t x' y' *ℤ pos f.turn)) -ℤ (pos (f.seen x y) +ℤ (t x y *ℤ pos f.turn))) -ℤ near f.turn (pos (f.seen x' y') -ℤ pos (f.seen x y))) ≡
        f.turn * (p * nat_abs ((t x' y' -ℤ t x y) -ℤ wrap_count f.turn (pos (f.seen x' y') -ℤ pos (f.seen x y))))
    at p x' y' x y =
        ap (λ (z : ℤ). p * nat_abs z) (step_turns f.turn (pos (f.seen x' y')) (pos (f.seen x y)) (t x y) (t x' y'))
        ∙ priced_turns p f.turn ((t x' y' -ℤ t x y) -ℤ wrap_count f.turn (pos (f.seen x' y') -ℤ pos (f.seen x y)))

-- least in whole turns is least
pub least_from_turns : (f : Field) (t : Turns) → ((u : Turns) → heights_cost (turn_steps f) t ≤ heights_cost (turn_steps f) u) → Least f t
least_from_turns f t h u = omega (arith, cost_turns f t, cost_turns f u, mul-le-mul_left f.turn (h u))

-- ---- row by row

-- what the steps to the right in row y cost
unfoldable pub row_right : Field → Turns → ℕ → ℕ
row_right f t y = sum_to (pred f.wide) (λ x. f.right x y * nat_abs (step_right f t x y -ℤ expected_right f x y))

-- what the steps down from row y cost
unfoldable pub row_below : Field → Turns → ℕ → ℕ
row_below f t y = sum_to f.wide (λ x. f.below x y * nat_abs (step_below f t x y -ℤ expected_below f x y))

-- the first n rows, with the steps down between them
unfoldable pub rows_cost : Field → Turns → ℕ → ℕ
rows_cost f t n = sum_to n (λ y. row_right f t y) + sum_to (pred n) (λ y. row_below f t y)

pub cost_rows : (f : Field) (t : Turns) → cost f t ≡ rows_cost f t f.high
unfolding cost rows_cost row_right row_below
cost_rows f t = refl

pub rows_cost_first : (f : Field) (t : Turns) → rows_cost f t 1 ≡ row_right f t 0
unfolding rows_cost sum_to
rows_cost_first f t = omega arith

pub rows_cost_more : (f : Field) (t : Turns) (n : ℕ) → rows_cost f t (suc (suc n)) ≡ rows_cost f t (suc n) + (row_below f t n + row_right f t (suc n))
unfolding rows_cost sum_to
rows_cost_more f t n = omega arith

-- ---- how much turns cost at most, where prices are at most p and no step differs by more than b

pub cost_at_most : (f : Field) (t : Turns) (p b : ℕ) →
    ((x y : ℕ) → suc x < f.wide → y < f.high → (f.right x y ≤ p) × (nat_abs (step_right f t x y -ℤ expected_right f x y) ≤ b)) →
    ((x y : ℕ) → x < f.wide → suc y < f.high → (f.below x y ≤ p) × (nat_abs (step_below f t x y -ℤ expected_below f x y) ≤ b)) →
    cost f t ≤ f.high * (pred f.wide * (p * b)) + pred f.high * (f.wide * (p * b))
unfolding cost all_steps
cost_at_most f t p b c d =
    all_steps_at_most f.wide f.high (p * b) (λ x y. f.right x y * nat_abs (step_right f t x y -ℤ expected_right f x y)) (λ x y. f.below x y * nat_abs (step_below f t x y -ℤ expected_below f x y))
    (λ x y k l. mul-le-mul (c x y k l).0 (c x y k l).1) (λ x y k l. mul-le-mul (d x y k l).0 (d x y k l).1)
