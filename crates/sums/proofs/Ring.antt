-- Laws of the product of integers that linear arithmetic doesn't have.
use Rattle.std.proofs.Common.{◌≡◌, ℕ, suc, ◌+◌, ◌*◌, ◌≤◌, ℤ, pos, negsuc, ◌+ℤ◌, ◌-ℤ◌, ◌*ℤ◌, neg_ℤ, nat_abs, ◌≤ℤ◌, sym, refl, ap, ◌∙◌, mul-le-mul_right, mul_assoc, mul_comm, add-mul, mul-le-mul_left, mul-add, le_of_mul-le-mul_right, arith}
use native.Mathlib.Nat.{eq_of_mul-eq-mul_right}
use borrow.Author.Differences.{up, down, sum_is_lem, neg_is, product_is}
use Rattle.std.proofs.lemmas.Int.{ints}

-- a sum of naturals in two ways, multiplied
times_sum : (k a b c d e f : ℕ) → a + b + c ≡ d + e + f → k * a + k * b + k * c ≡ k * d + k * e + k * f
times_sum k a b c d e f h = simp mul-add at (ap (λ (z : ℕ). k * z) h)

-- what the parts of an integer times a sum are
from_parts : (a b c s : ℤ) → up s + down b + down c ≡ down s + up b + up c → a *ℤ s ≡ (a *ℤ b) +ℤ (a *ℤ c)
from_parts a b c s h =
    let p = times_sum (up a) (up s) (down b) (down c) (down s) (up b) (up c) h in
    let q = times_sum (down a) (up s) (down b) (down c) (down s) (up b) (up c) h in
    omega (arith, ints)

pub mul_add_ℤ : (a b c : ℤ) → a *ℤ (b +ℤ c) ≡ (a *ℤ b) +ℤ (a *ℤ c)
mul_add_ℤ a b c = from_parts a b c (b +ℤ c) (sum_is_lem b c)

pub mul_comm_ℤ : (a b : ℤ) → a *ℤ b ≡ b *ℤ a
mul_comm_ℤ a b = omega (arith, ints, mul_comm (up a) (up b), mul_comm (down a) (down b), mul_comm (up a) (down b), mul_comm (down a) (up b))

pub add_mul_ℤ : (a b c : ℤ) → (a +ℤ b) *ℤ c ≡ (a *ℤ c) +ℤ (b *ℤ c)
add_mul_ℤ a b c = omega (arith, ints, mul_add_ℤ c a b, mul_comm_ℤ (a +ℤ b) c, mul_comm_ℤ a c, mul_comm_ℤ b c)

pub mul_neg_ℤ : (a b : ℤ) → a *ℤ neg_ℤ b ≡ neg_ℤ (a *ℤ b)
mul_neg_ℤ a b =
    omega (arith, ints, ap (λ (z : ℕ). up a * z) (neg_is b).0, ap (λ (z : ℕ). up a * z) (neg_is b).1, ap (λ (z : ℕ). down a * z) (neg_is b).0, ap (λ (z : ℕ). down a * z) (neg_is b).1)

pub neg_mul_ℤ : (a b : ℤ) → neg_ℤ a *ℤ b ≡ neg_ℤ (a *ℤ b)
neg_mul_ℤ a b = omega (arith, ints, mul_neg_ℤ b a, mul_comm_ℤ (neg_ℤ a) b, mul_comm_ℤ a b)

pub mul_sub_ℤ : (a b c : ℤ) → a *ℤ (b -ℤ c) ≡ (a *ℤ b) -ℤ (a *ℤ c)
mul_sub_ℤ a b c = omega (arith, ints, mul_add_ℤ a b (neg_ℤ c), mul_neg_ℤ a c)

pub sub_mul_ℤ : (a b c : ℤ) → (a -ℤ b) *ℤ c ≡ (a *ℤ c) -ℤ (b *ℤ c)
sub_mul_ℤ a b c = omega (arith, ints, add_mul_ℤ a (neg_ℤ b) c, neg_mul_ℤ b c)

-- the parts of a product of three
three_parts : (a b c d e f : ℕ) →
    ((a * c + b * d) * e + (a * d + b * c) * f ≡ a * (c * e + d * f) + b * (c * f + d * e)) ×
    ((a * c + b * d) * f + (a * d + b * c) * e ≡ a * (c * f + d * e) + b * (c * e + d * f))
three_parts a b c d e f = (simp (mul-add, add-mul, mul_assoc) (omega arith), simp (mul-add, add-mul, mul_assoc) (omega arith))

pub mul_assoc_ℤ : (a b c : ℤ) → (a *ℤ b) *ℤ c ≡ a *ℤ (b *ℤ c)
mul_assoc_ℤ a b c =
    let l = product_is (a *ℤ b) c in
    let r = product_is a (b *ℤ c) in
    let l0 = simp ((product_is a b).0, (product_is a b).1) at l.0 in
    let l1 = simp ((product_is a b).0, (product_is a b).1) at l.1 in
    let r0 = simp ((product_is b c).0, (product_is b c).1) at r.0 in
    let r1 = simp ((product_is b c).0, (product_is b c).1) at r.1 in
    let t = three_parts (up a) (down a) (up b) (down b) (up c) (down c) in
    same_parts ((a *ℤ b) *ℤ c) (a *ℤ (b *ℤ c)) (l0 ∙ t.0 ∙ sym r0) (l1 ∙ t.1 ∙ sym r1)
  where
    same_parts : (s t : ℤ) → up s ≡ up t → down s ≡ down t → s ≡ t
    same_parts s t e h = omega (arith, ints)

pub mul_one_ℤ : (a : ℤ) → a *ℤ pos 1 ≡ a
mul_one_ℤ a = omega (arith, ints)

pub one_mul_ℤ : (a : ℤ) → pos 1 *ℤ a ≡ a
one_mul_ℤ a = omega (arith, ints)

pub mul_zero_ℤ : (a : ℤ) → a *ℤ pos 0 ≡ pos 0
mul_zero_ℤ a = omega (arith, ints)

pub zero_mul_ℤ : (a : ℤ) → pos 0 *ℤ a ≡ pos 0
zero_mul_ℤ a = omega (arith, ints)

pub pos_mul : (a b : ℕ) → pos a *ℤ pos b ≡ pos (a * b)
pos_mul a b = refl

pub pos_add : (a b : ℕ) → pos a +ℤ pos b ≡ pos (a + b)
pos_add a b = refl

-- for simp: products are taken apart, so that what is left is linear in products of single numbers
pub ruleset ring = (mul_add_ℤ, add_mul_ℤ, mul_neg_ℤ, neg_mul_ℤ)

-- ---- how large a product is

pub nat_abs_neg : (a : ℤ) → nat_abs (neg_ℤ a) ≡ nat_abs a
nat_abs_neg a = omega (arith, ints)

pub nat_abs_mul : (a b : ℤ) → nat_abs (a *ℤ b) ≡ nat_abs a * nat_abs b
nat_abs_mul (pos a) (pos b) = refl
nat_abs_mul (pos a) (negsuc b) = nat_abs_neg (pos (a * suc b))
nat_abs_mul (negsuc a) (pos b) = nat_abs_neg (pos (suc a * b))
nat_abs_mul (negsuc a) (negsuc b) = refl

pub nat_abs_zero : (a : ℤ) → nat_abs a ≡ 0 → a ≡ pos 0
nat_abs_zero a h = omega (arith, ints)

pub nat_abs_add : (a b : ℤ) → nat_abs (a +ℤ b) ≤ nat_abs a + nat_abs b
nat_abs_add a b = omega (arith, ints)

pub le_nat_abs : (a : ℤ) → a ≤ℤ pos (nat_abs a)
le_nat_abs a = omega (arith, ints)

pub mul_nonneg_ℤ : (a b : ℤ) → pos 0 ≤ℤ a → pos 0 ≤ℤ b → pos 0 ≤ℤ (a *ℤ b)
mul_nonneg_ℤ (pos a) (pos b) h k = omega (arith, ints)
mul_nonneg_ℤ (pos a) (negsuc b) h k = omega (arith, ints)
mul_nonneg_ℤ (negsuc a) (pos b) h k = omega (arith, ints)
mul_nonneg_ℤ (negsuc a) (negsuc b) h k = omega (arith, ints)

pub mul_le_left_ℤ : (n : ℕ) (a b : ℤ) → a ≤ℤ b → (pos n *ℤ a) ≤ℤ (pos n *ℤ b)
mul_le_left_ℤ n a b h =
    let p : up a + down b ≤ up b + down a = omega (arith, ints) in
    let q = simp mul-add at (mul-le-mul_left n p) in
    omega (arith, ints)

pub mul_le_right_ℤ : (n : ℕ) (a b : ℤ) → a ≤ℤ b → (a *ℤ pos n) ≤ℤ (b *ℤ pos n)
mul_le_right_ℤ n a b h = omega (arith, ints, mul_le_left_ℤ n a b h, mul_comm_ℤ a (pos n), mul_comm_ℤ b (pos n))

pub mul_le_abs : (a b : ℤ) → (a *ℤ b) ≤ℤ pos (nat_abs a * nat_abs b)
mul_le_abs a b = omega (arith, ints, le_nat_abs (a *ℤ b), nat_abs_mul a b)

-- what a number that is at most a price brings is at most the price for each
pub mul_le_price : (f k : ℤ) (p : ℕ) → nat_abs f ≤ p → (f *ℤ k) ≤ℤ pos (p * nat_abs k)
mul_le_price f k p h = omega (arith, ints, mul_le_abs f k, mul-le-mul_right (nat_abs k) h)

-- ---- what a factor above 0 lets through

pub mul_cancel_ℤ : (n : ℕ) (a b : ℤ) → 1 ≤ n → a *ℤ pos n ≡ b *ℤ pos n → a ≡ b
mul_cancel_ℤ n a b l h =
    let q : up a * n + down b * n ≡ up b * n + down a * n = omega (arith, ints) in
    let e : up a + down b ≡ up b + down a = eq_of_mul-eq-mul_right n l (up a + down b) (up b + down a) (add-mul (up a) (down b) n ∙ q ∙ sym (add-mul (up b) (down a) n)) in
    omega (arith, ints)

pub mul_cancel_left_ℤ : (n : ℕ) (a b : ℤ) → 1 ≤ n → pos n *ℤ a ≡ pos n *ℤ b → a ≡ b
mul_cancel_left_ℤ n a b l h = mul_cancel_ℤ n a b l (mul_comm_ℤ a (pos n) ∙ h ∙ mul_comm_ℤ (pos n) b)

pub mul_le_cancel_ℤ : (n : ℕ) (a b : ℤ) → 1 ≤ n → (a *ℤ pos n) ≤ℤ (b *ℤ pos n) → a ≤ℤ b
mul_le_cancel_ℤ n a b l h =
    let q : up a * n + down b * n ≤ up b * n + down a * n = omega (arith, ints) in
    let e : (up a + down b) * n ≤ (up b + down a) * n = rw (add-mul (up a) (down b) n, add-mul (up b) (down a) n) q in
    let r : up a + down b ≤ up b + down a = le_of_mul-le-mul_right e l in
    omega (arith, ints)
