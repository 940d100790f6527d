-- Laws of sums of the first n members of a function, over the naturals (`sum_..`) and over the integers (`sum_ℤ_..`).
use Rattle.std.proofs.Common.{◌≡◌, ℕ, zero, suc, ◌+◌, ◌-◌, ◌*◌, ◌<◌, ◌≤◌, ◌≢◌, ℤ, pos, ◌+ℤ◌, ◌-ℤ◌, ◌*ℤ◌, neg_ℤ, nat_abs, ◌≤ℤ◌, sym, refl, ap, ◌∙◌, ap₂, add-zero, add-suc, suc-mul, add-mul, mul-zero, zero-mul, mul-add, arith}
use native.Mathlib.Decide.{ℕ_discrete}
use Rattle.std.proofs.lemmas.Int.{ints}
use Rattle.sums.specs.Sum.{sum_to, sum_ℤ}
use Rattle.sums.proofs.Ring.{mul_add_ℤ, add_mul_ℤ, mul_sub_ℤ, sub_mul_ℤ, mul_zero_ℤ, zero_mul_ℤ}

-- ---- over the naturals

pub sum_ext : (n : ℕ) (g h : ℕ → ℕ) → ((i : ℕ) → i < n → g i ≡ h i) → sum_to n g ≡ sum_to n h
unfolding sum_to
sum_ext zero g h e = refl
sum_ext (suc n) g h e = ap₂ (λ (a b : ℕ). a + b) (sum_ext n g h (λ i l. e i (omega arith))) (e n (omega arith))

pub sum_le : (n : ℕ) (g h : ℕ → ℕ) → ((i : ℕ) → i < n → g i ≤ h i) → sum_to n g ≤ sum_to n h
unfolding sum_to
sum_le zero g h e = omega arith
sum_le (suc n) g h e = omega (arith, sum_le n g h (λ i l. e i (omega arith)), e n (omega arith))

pub sum_zero : (n : ℕ) (g : ℕ → ℕ) → ((i : ℕ) → i < n → g i ≡ 0) → sum_to n g ≡ 0
unfolding sum_to
sum_zero zero g e = refl
sum_zero (suc n) g e = omega (arith, sum_zero n g (λ i l. e i (omega arith)), e n (omega arith))

pub sum_const : (n k : ℕ) → sum_to n (λ _. k) ≡ n * k
unfolding sum_to
sum_const zero k = sym (zero-mul k)
sum_const (suc n) k = omega (arith, sum_const n k, suc-mul n k)

pub sum_at_most : (n k : ℕ) (g : ℕ → ℕ) → ((i : ℕ) → i < n → g i ≤ k) → sum_to n g ≤ n * k
sum_at_most n k g e = omega (arith, sum_le n g (λ _. k) e, sum_const n k)

pub sum_add : (n : ℕ) (g h : ℕ → ℕ) → sum_to n (λ i. g i + h i) ≡ sum_to n g + sum_to n h
unfolding sum_to
sum_add zero g h = refl
sum_add (suc n) g h = omega (arith, sum_add n g h)

pub sum_scale : (n k : ℕ) (g : ℕ → ℕ) → sum_to n (λ i. k * g i) ≡ k * sum_to n g
unfolding sum_to
sum_scale zero k g = sym (mul-zero k)
sum_scale (suc n) k g = omega (arith, sum_scale n k g, mul-add k (sum_to n g) (g n))

pub sum_scale_right : (n k : ℕ) (g : ℕ → ℕ) → sum_to n (λ i. g i * k) ≡ sum_to n g * k
unfolding sum_to
sum_scale_right zero k g = sym (zero-mul k)
sum_scale_right (suc n) k g = omega (arith, sum_scale_right n k g, add-mul (sum_to n g) (g n) k)

pub member_le_sum : (n i : ℕ) (g : ℕ → ℕ) → i < n → g i ≤ sum_to n g
unfolding sum_to
member_le_sum zero i g l = omega arith
member_le_sum (suc n) i g l = by (ℕ_discrete i n) (λ k. member_le_sum n i g k)
  where
    by : Dec (i ≡ n) → (i < n → g i ≤ sum_to n g) → g i ≤ sum_to n g + g n
    by (yes e) f = omega (arith, ap g e)
    by (no e) f = omega (arith, f (omega arith))

-- a sum is 0 only where each member is
pub sum_zero_each : (n : ℕ) (g : ℕ → ℕ) → sum_to n g ≡ 0 → (i : ℕ) → i < n → g i ≡ 0
sum_zero_each n g h i l = omega (arith, member_le_sum n i g l)

pub sum_swap : (m n : ℕ) (g : ℕ → ℕ → ℕ) → sum_to m (λ i. sum_to n (λ j. g i j)) ≡ sum_to n (λ j. sum_to m (λ i. g i j))
unfolding sum_to
sum_swap zero n g = sym (sum_zero n (λ _. 0) (λ i l. refl))
sum_swap (suc m) n g = ap (λ (z : ℕ). z + sum_to n (λ j. g m j)) (sum_swap m n g) ∙ sym (sum_add n (λ j. sum_to m (λ i. g i j)) (λ j. g m j))

pub sum_split : (m n : ℕ) (g : ℕ → ℕ) → sum_to (m + n) g ≡ sum_to m g + sum_to n (λ i. g (m + i))
unfolding sum_to
sum_split m zero g = rw (add-zero m) (omega arith)
sum_split m (suc n) g = rw (add-suc m n) (omega (arith, sum_split m n g))

-- the first member apart
pub sum_first : (n : ℕ) (g : ℕ → ℕ) → sum_to (suc n) g ≡ g 0 + sum_to n (λ i. g (suc i))
unfolding sum_to
sum_first zero g = omega arith
sum_first (suc n) g = omega (arith, sum_first n g)

-- two functions that differ at one index
pub sum_change : (n a : ℕ) (g h : ℕ → ℕ) → a < n → ((i : ℕ) → i < n → i ≢ a → g i ≡ h i) → sum_to n g + h a ≡ sum_to n h + g a
unfolding sum_to
sum_change zero a g h l e = omega arith
sum_change (suc n) a g h l e = by (ℕ_discrete a n) (λ k. sum_change n a g h k (λ i m ne. e i (omega arith) ne))
  where
    by : Dec (a ≡ n) → (a < n → sum_to n g + h a ≡ sum_to n h + g a) → sum_to n g + g n + h a ≡ sum_to n h + h n + g a
    by (yes q) f = omega (arith, ap g q, ap h q, sum_ext n g h (λ i m. e i (omega arith) (λ c. omega arith)))
    by (no q) f = omega (arith, f (omega arith), e n (omega arith) (λ c. q (sym c)))

-- the one where something is so, else the other
unfoldable pub if_so : {A X : Type 0} → Dec X → A → A → A
if_so (yes x) a b = a
if_so (no x) a b = b

-- two functions that differ at two indices
pub sum_change_two : (n a b : ℕ) (g h : ℕ → ℕ) → a < n → b < n → a ≢ b → ((i : ℕ) → i < n → i ≢ a → i ≢ b → g i ≡ h i) →
    sum_to n g + (h a + h b) ≡ sum_to n h + (g a + g b)
unfolding if_so
sum_change_two n a b g h k l ne e =
    let m : ℕ → ℕ = λ i. if_so (ℕ_discrete i a) (h i) (g i) in
    let here : (i : ℕ) → i ≡ a → m i ≡ h i = λ i p. yes_is i p (ℕ_discrete i a) in
    let there : (i : ℕ) → i ≢ a → m i ≡ g i = λ i p. no_is i p (ℕ_discrete i a) in
    let one = sum_change n a g m k (λ i q p. sym (there i p)) in
    let two = sum_change n b m h l (λ i q p. at i q p (ℕ_discrete i a)) in
    omega (arith, one, two, here a refl, there b (λ p. ne (sym p)))
  where
    yes_is : (i : ℕ) → i ≡ a → (d : Dec (i ≡ a)) → if_so d (h i) (g i) ≡ h i
    yes_is i p (yes q) = refl
    yes_is i p (no q) = absurd (q p)

    no_is : (i : ℕ) → i ≢ a → (d : Dec (i ≡ a)) → if_so d (h i) (g i) ≡ g i
    no_is i p (yes q) = absurd (p q)
    no_is i p (no q) = refl

    at : (i : ℕ) → i < n → i ≢ b → (d : Dec (i ≡ a)) → if_so d (h i) (g i) ≡ h i
    at i q p (yes r) = refl
    at i q p (no r) = e i q r p

-- one member alone
pub sum_spike : (n a : ℕ) (g : ℕ → ℕ) → a < n → ((i : ℕ) → i < n → i ≢ a → g i ≡ 0) → sum_to n g ≡ g a
sum_spike n a g l e = omega (arith, sum_change n a g (λ _. 0) l e, sum_zero n (λ _. 0) (λ i m. refl))

-- a larger n has a larger sum
pub sum_longer : (m n : ℕ) (g : ℕ → ℕ) → m ≤ n → sum_to m g ≤ sum_to n g
sum_longer m n g l = let e : m + (n - m) ≡ n = omega arith in omega (arith, sum_split m (n - m) g, ap (λ (z : ℕ). sum_to z g) e)

-- ---- over the integers

pub sum_ℤ_ext : (n : ℕ) (g h : ℕ → ℤ) → ((i : ℕ) → i < n → g i ≡ h i) → sum_ℤ n g ≡ sum_ℤ n h
unfolding sum_ℤ
sum_ℤ_ext zero g h e = refl
sum_ℤ_ext (suc n) g h e = ap₂ (λ (a b : ℤ). a +ℤ b) (sum_ℤ_ext n g h (λ i l. e i (omega arith))) (e n (omega arith))

pub sum_ℤ_le : (n : ℕ) (g h : ℕ → ℤ) → ((i : ℕ) → i < n → g i ≤ℤ h i) → sum_ℤ n g ≤ℤ sum_ℤ n h
unfolding sum_ℤ
sum_ℤ_le zero g h e = omega (arith, ints)
sum_ℤ_le (suc n) g h e = omega (arith, ints, sum_ℤ_le n g h (λ i l. e i (omega arith)), e n (omega arith))

pub sum_ℤ_zero : (n : ℕ) (g : ℕ → ℤ) → ((i : ℕ) → i < n → g i ≡ pos 0) → sum_ℤ n g ≡ pos 0
unfolding sum_ℤ
sum_ℤ_zero zero g e = refl
sum_ℤ_zero (suc n) g e = omega (arith, ints, sum_ℤ_zero n g (λ i l. e i (omega arith)), e n (omega arith))

pub sum_ℤ_add : (n : ℕ) (g h : ℕ → ℤ) → sum_ℤ n (λ i. g i +ℤ h i) ≡ sum_ℤ n g +ℤ sum_ℤ n h
unfolding sum_ℤ
sum_ℤ_add zero g h = refl
sum_ℤ_add (suc n) g h = omega (arith, ints, sum_ℤ_add n g h)

pub sum_ℤ_neg : (n : ℕ) (g : ℕ → ℤ) → sum_ℤ n (λ i. neg_ℤ (g i)) ≡ neg_ℤ (sum_ℤ n g)
unfolding sum_ℤ
sum_ℤ_neg zero g = refl
sum_ℤ_neg (suc n) g = omega (arith, ints, sum_ℤ_neg n g)

pub sum_ℤ_sub : (n : ℕ) (g h : ℕ → ℤ) → sum_ℤ n (λ i. g i -ℤ h i) ≡ sum_ℤ n g -ℤ sum_ℤ n h
unfolding sum_ℤ
sum_ℤ_sub zero g h = refl
sum_ℤ_sub (suc n) g h = omega (arith, ints, sum_ℤ_sub n g h)

pub sum_ℤ_scale : (n : ℕ) (k : ℤ) (g : ℕ → ℤ) → sum_ℤ n (λ i. k *ℤ g i) ≡ k *ℤ sum_ℤ n g
unfolding sum_ℤ
sum_ℤ_scale zero k g = sym (mul_zero_ℤ k)
sum_ℤ_scale (suc n) k g = omega (arith, ints, sum_ℤ_scale n k g, mul_add_ℤ k (sum_ℤ n g) (g n))

pub sum_ℤ_scale_right : (n : ℕ) (k : ℤ) (g : ℕ → ℤ) → sum_ℤ n (λ i. g i *ℤ k) ≡ sum_ℤ n g *ℤ k
unfolding sum_ℤ
sum_ℤ_scale_right zero k g = sym (zero_mul_ℤ k)
sum_ℤ_scale_right (suc n) k g = omega (arith, ints, sum_ℤ_scale_right n k g, add_mul_ℤ (sum_ℤ n g) (g n) k)

pub sum_ℤ_const : (n : ℕ) (k : ℤ) → sum_ℤ n (λ _. k) ≡ pos n *ℤ k
unfolding sum_ℤ
sum_ℤ_const zero k = sym (zero_mul_ℤ k)
sum_ℤ_const (suc n) k = omega (arith, ints, sum_ℤ_const n k, add_mul_ℤ (pos 1) (pos n) k)

pub sum_ℤ_pos : (n : ℕ) (g : ℕ → ℕ) → sum_ℤ n (λ i. pos (g i)) ≡ pos (sum_to n g)
unfolding sum_ℤ sum_to
sum_ℤ_pos zero g = refl
sum_ℤ_pos (suc n) g = omega (arith, ints, sum_ℤ_pos n g)

pub sum_ℤ_nonneg : (n : ℕ) (g : ℕ → ℤ) → ((i : ℕ) → i < n → pos 0 ≤ℤ g i) → pos 0 ≤ℤ sum_ℤ n g
sum_ℤ_nonneg n g e = omega (arith, ints, sum_ℤ_le n (λ _. pos 0) g e, sum_ℤ_zero n (λ _. pos 0) (λ i l. refl))

pub nat_abs_sum_ℤ : (n : ℕ) (g : ℕ → ℤ) → nat_abs (sum_ℤ n g) ≤ sum_to n (λ i. nat_abs (g i))
unfolding sum_ℤ sum_to
nat_abs_sum_ℤ zero g = omega arith
nat_abs_sum_ℤ (suc n) g = omega (arith, ints, nat_abs_sum_ℤ n g)

-- a table adds up to the same by rows and by columns
pub sum_ℤ_swap : (m n : ℕ) (g : ℕ → ℕ → ℤ) → sum_ℤ m (λ i. sum_ℤ n (λ j. g i j)) ≡ sum_ℤ n (λ j. sum_ℤ m (λ i. g i j))
unfolding sum_ℤ
sum_ℤ_swap zero n g = sym (sum_ℤ_zero n (λ _. pos 0) (λ i l. refl))
sum_ℤ_swap (suc m) n g = ap (λ (z : ℤ). z +ℤ sum_ℤ n (λ j. g m j)) (sum_ℤ_swap m n g) ∙ sym (sum_ℤ_add n (λ j. sum_ℤ m (λ i. g i j)) (λ j. g m j))

pub sum_ℤ_split : (m n : ℕ) (g : ℕ → ℤ) → sum_ℤ (m + n) g ≡ sum_ℤ m g +ℤ sum_ℤ n (λ i. g (m + i))
unfolding sum_ℤ
sum_ℤ_split m zero g = rw (add-zero m) (omega (arith, ints))
sum_ℤ_split m (suc n) g = rw (add-suc m n) (omega (arith, ints, sum_ℤ_split m n g))

pub sum_ℤ_first : (n : ℕ) (g : ℕ → ℤ) → sum_ℤ (suc n) g ≡ g 0 +ℤ sum_ℤ n (λ i. g (suc i))
unfolding sum_ℤ
sum_ℤ_first zero g = omega (arith, ints)
sum_ℤ_first (suc n) g = omega (arith, ints, sum_ℤ_first n g)

-- differences one after another
pub sum_ℤ_telescope : (n : ℕ) (g : ℕ → ℤ) → sum_ℤ n (λ i. g (suc i) -ℤ g i) ≡ g n -ℤ g 0
unfolding sum_ℤ
sum_ℤ_telescope zero g = omega (arith, ints)
sum_ℤ_telescope (suc n) g = omega (arith, ints, sum_ℤ_telescope n g)

-- summation by parts
pub sum_ℤ_parts : (n : ℕ) (p k : ℕ → ℤ) →
    sum_ℤ (suc n) (λ i. (p (suc i) -ℤ p i) *ℤ k i) ≡ ((p (suc n) *ℤ k n) -ℤ (p 0 *ℤ k 0)) +ℤ sum_ℤ n (λ i. p (suc i) *ℤ (k i -ℤ k (suc i)))
unfolding sum_ℤ
sum_ℤ_parts zero p k = omega (arith, ints, sub_mul_ℤ (p 1) (p 0) (k 0))
sum_ℤ_parts (suc n) p k = omega (arith, ints, sum_ℤ_parts n p k, sub_mul_ℤ (p (suc (suc n))) (p (suc n)) (k (suc n)), mul_sub_ℤ (p (suc n)) (k n) (k (suc n)))

-- and where the one function is 0 at both ends
pub sum_ℤ_parts_edge : (n : ℕ) (p k : ℕ → ℤ) → p 0 ≡ pos 0 → p (suc n) ≡ pos 0 →
    sum_ℤ (suc n) (λ i. (p (suc i) -ℤ p i) *ℤ k i) ≡ sum_ℤ n (λ i. p (suc i) *ℤ (k i -ℤ k (suc i)))
sum_ℤ_parts_edge n p k a b =
    omega (arith, ints, sum_ℤ_parts n p k, ap (λ (z : ℤ). z *ℤ k 0) a, ap (λ (z : ℤ). z *ℤ k n) b, zero_mul_ℤ (k 0), zero_mul_ℤ (k n))

-- two functions that differ at one index
pub sum_ℤ_change : (n a : ℕ) (d : ℤ) (g h : ℕ → ℤ) → a < n → h a ≡ (g a +ℤ d) → ((i : ℕ) → i < n → i ≢ a → h i ≡ g i) → sum_ℤ n h ≡ sum_ℤ n g +ℤ d
unfolding sum_ℤ
sum_ℤ_change zero a d g h l c e = absurd (omega arith)
sum_ℤ_change (suc n) a d g h l c e = by (ℕ_discrete a n) (λ k. sum_ℤ_change n a d g h k c (λ i m ne. e i (omega arith) ne))
  where
    by : Dec (a ≡ n) → (a < n → sum_ℤ n h ≡ sum_ℤ n g +ℤ d) → sum_ℤ n h +ℤ h n ≡ (sum_ℤ n g +ℤ g n) +ℤ d
    by (yes q) f = omega (arith, ints, c, ap g q, ap h q, sum_ℤ_ext n h g (λ i m. e i (omega arith) (λ x. omega arith)))
    by (no q) f = omega (arith, ints, f (omega arith), e n (omega arith) (λ x. q (sym x)))

-- one member alone
pub sum_ℤ_spike : (n a : ℕ) (g : ℕ → ℤ) → a < n → ((i : ℕ) → i < n → i ≢ a → g i ≡ pos 0) → sum_ℤ n g ≡ g a
sum_ℤ_spike n a g l e =
    omega (arith, ints, sum_ℤ_change n a (g a) (λ _. pos 0) g l (omega (arith, ints)) e, sum_ℤ_zero n (λ _. pos 0) (λ i m. refl))
