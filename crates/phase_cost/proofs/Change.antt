-- What is changed of the cost by a change at one place: only the steps to and from it.
use Rattle.std.proofs.Common.{◌≡◌, ℕ, zero, suc, pred, ◌+◌, ◌*◌, ◌<◌, ◌≤◌, Bool, true, false, cond, ltb, ◌≢◌, ◌⊎◌, ◌-ℤ◌, nat_abs, refl, ap, inl, inr, mul-add, arith, ltb-false, ltb-true}
use Rattle.sums.specs.Sum.{sum_to}
use Rattle.sums.proofs.Sum.{sum_change, sum_change_two, sum_ext, sum_swap}
use Rattle.phase_field.specs.Field.{Field, Turns}
use Rattle.phase_cost.specs.Cost.{cost}
use Rattle.phase_cost.specs.Steps.{Steps, Heights, more_right, more_below, all_steps, heights_cost, turn_steps}
use Rattle.phase_cost.proofs.Cost.{cost_turns}

-- of n steps in a line, those to and from the place i
unfoldable pub beside : (n i : ℕ) → (ℕ → ℕ) → ℕ
beside n zero g = cond (ltb 0 n) (g 0) 0
beside n (suc i) g = g i + cond (ltb (suc i) n) (g (suc i)) 0

-- what the steps to and from a place of the field cost
unfoldable pub around : Steps → Heights → ℕ → ℕ → ℕ
around s h i j =
    beside (pred s.wide) i (λ x. s.right x j * nat_abs (more_right s h x j)) + beside (pred s.high) j (λ y. s.below i y * nat_abs (more_below s h i y))

-- steps in a line that differ only to and from the place i
line_change : (n i : ℕ) (g h : ℕ → ℕ) → i ≤ n → ((k : ℕ) → k < n → k ≢ i → suc k ≢ i → g k ≡ h k) → sum_to n g + beside n i h ≡ sum_to n h + beside n i g
unfolding beside
line_change n zero g h l e = by (ltb 0 n) refl
  where
    by : (t : Bool) → ltb 0 n ≡ t → sum_to n g + cond t (h 0) 0 ≡ sum_to n h + cond t (g 0) 0
    by true q = sum_change n 0 g h (ltb-true 0 n q) (λ k m p. e k m p (λ c. omega arith))
    by false q = ap (λ (z : ℕ). z + 0) (sum_ext n g h (λ k m. absurd (omega (arith, ltb-false 0 n q))))
line_change n (suc i) g h l e = by (ltb (suc i) n) refl
  where
    by : (t : Bool) → ltb (suc i) n ≡ t → sum_to n g + (h i + cond t (h (suc i)) 0) ≡ sum_to n h + (g i + cond t (g (suc i)) 0)
    by true q = sum_change_two n i (suc i) g h l (ltb-true (suc i) n q) (λ c. omega arith) (λ k m p r. e k m r (λ c. p (omega arith)))
    by false q = omega (arith, sum_change n i g h l (λ k m p. e k m (λ c. omega (arith, ltb-false (suc i) n q)) (λ c. p (omega arith))))

-- a table of them: the line j is the one that differs
table_change : (m n i j : ℕ) (g h : ℕ → ℕ → ℕ) → i ≤ m → j < n →
    ((x y : ℕ) → x < m → y < n → y ≢ j → g x y ≡ h x y) → ((x : ℕ) → x < m → x ≢ i → suc x ≢ i → g x j ≡ h x j) →
    sum_to n (λ y. sum_to m (λ x. g x y)) + beside m i (λ x. h x j) ≡ sum_to n (λ y. sum_to m (λ x. h x y)) + beside m i (λ x. g x j)
table_change m n i j g h k l other line =
    omega (
      arith,
      sum_change n j (λ y. sum_to m (λ x. g x y)) (λ y. sum_to m (λ x. h x y)) l (λ y a p. sum_ext m (λ x. g x y) (λ x. h x y) (λ x b. other x y b a p)),
      line_change m i (λ x. g x j) (λ x. h x j) k line,
    )

-- heights that agree on the places but at (i, j)
pub heights_cost_change : (s : Steps) (h g : Heights) (i j : ℕ) → i < s.wide → j < s.high →
    ((x y : ℕ) → x < s.wide → y < s.high → (x ≢ i) ⊎ (y ≢ j) → h x y ≡ g x y) →
    heights_cost s h + around s g i j ≡ heights_cost s g + around s h i j
unfolding heights_cost all_steps around more_right more_below
heights_cost_change s h g i j k l e =
    let r : Heights → ℕ → ℕ → ℕ = λ h x y. s.right x y * nat_abs ((h (suc x) y -ℤ h x y) -ℤ s.to_right x y) in
    let b : Heights → ℕ → ℕ → ℕ = λ h x y. s.below x y * nat_abs ((h x (suc y) -ℤ h x y) -ℤ s.to_below x y) in
    let right : (x y : ℕ) → suc x < s.wide → y < s.high → (x ≢ i) ⊎ (y ≢ j) → (suc x ≢ i) ⊎ (y ≢ j) → r h x y ≡ r g x y =
    λ x y m o p q. λ t. s.right x y * nat_abs ((e (suc x) y m o q t -ℤ e x y (omega arith) o p t) -ℤ s.to_right x y) in
    let below : (x y : ℕ) → x < s.wide → suc y < s.high → (x ≢ i) ⊎ (y ≢ j) → (x ≢ i) ⊎ (suc y ≢ j) → b h x y ≡ b g x y =
    λ x y m o p q. λ t. s.below x y * nat_abs ((e x (suc y) m o q t -ℤ e x y m (omega arith) p t) -ℤ s.to_below x y) in
    let one = table_change (pred s.wide) s.high i j (r h) (r g) (omega arith) l (λ x y m o p. right x y (omega arith) o (inr p) (inr p)) (λ x m p q. right x j (omega arith) l (inl p) (inl q)) in
    let two = table_change (pred s.high) s.wide j i (λ y x. b h x y) (λ y x. b g x y) (omega arith) k (λ y x m o p. below x y o (omega arith) (inl p) (inl p)) (λ y m p q. below i y k (omega arith) (inr p) (inr q)) in
    omega (arith, one, two, sum_swap s.wide (pred s.high) (λ x y. b h x y), sum_swap s.wide (pred s.high) (λ x y. b g x y))

-- turns that agree on the places but at (i, j)
pub cost_change : (f : Field) (t u : Turns) (i j : ℕ) → i < f.wide → j < f.high →
    ((x y : ℕ) → x < f.wide → y < f.high → (x ≢ i) ⊎ (y ≢ j) → t x y ≡ u x y) →
    cost f t + f.turn * around (turn_steps f) u i j ≡ cost f u + f.turn * around (turn_steps f) t i j
unfolding turn_steps
cost_change f t u i j k l e =
    scaled f.turn _ _ (around (turn_steps f) u i j) _ _ (around (turn_steps f) t i j) (cost_turns f t) (cost_turns f u) (heights_cost_change (turn_steps f) t u i j k l e)
  where
    scaled : (n a b c d k m : ℕ) → a ≡ n * b → d ≡ n * k → b + c ≡ k + m → a + n * c ≡ d + n * m
    scaled n a b c d k m p q r = omega (arith, mul-add n b c, mul-add n k m, ap (λ (z : ℕ). n * z) r)
