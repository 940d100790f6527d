-- One edge: from one flow to another it costs at least what the potentials of its ends say.
use Rattle.std.proofs.Common.{◌≡◌, ℕ, ℤ, pos, negsuc, ◌+ℤ◌, ◌-ℤ◌, ◌*ℤ◌, neg_ℤ, nat_abs, ◌≤ℤ◌, ◌<ℤ◌, refl, ap, ◌∙◌, inl, inr, arith}
use borrow.Author.Differences.{up}
use Rattle.std.proofs.lemmas.Int.{ints}
use Rattle.sums.proofs.Ring.{add_mul_ℤ, neg_mul_ℤ, mul_sub_ℤ, mul_zero_ℤ, mul_nonneg_ℤ, mul_le_right_ℤ}
use Rattle.net_graph.proofs.Points.{cases_lt_ℤ}

pub up_none : (z : ℤ) → z ≤ℤ pos 0 → up z ≡ 0
up_none (pos n) h = omega (arith, ints)
up_none (negsuc n) h = refl

pub up_some : (z : ℤ) → pos 0 ≤ℤ z → pos (up z) ≡ z
up_some (pos n) h = refl
up_some (negsuc n) h = absurd (omega (arith, ints))

-- how much more goes along an arc, counted as the cost counts it
abbrev pub rise : ℤ → ℤ → ℤ
rise x y = pos (up y) -ℤ pos (up x)

-- a flow that stays in the other direction
below_0 : (u' kd ky kx c' k' : ℤ) → u' ≡ neg_ℤ kd → kd ≡ (ky -ℤ kx) → c' ≡ pos 0 → k' ≡ (kx -ℤ ky) → u' ≤ℤ (c' +ℤ k')
below_0 u' kd ky kx c' k' a b c d = omega (arith, ints)

-- a flow that changes its direction
through_0 : (u' kd ky kx c' k' cy s : ℤ) → u' ≡ neg_ℤ kd → kd ≡ (ky -ℤ kx) → c' ≡ cy → k' ≡ kx → s ≡ (cy +ℤ ky) → pos 0 ≤ℤ s → u' ≤ℤ (c' +ℤ k')
through_0 u' kd ky kx c' k' cy s a b c d e f = omega (arith, ints)

-- c is what the arc costs and k what its pair costs; u is the unit cost at x, p and q are the potentials of tail and head
module _ (c k x y u p q : ℤ) (more : x <ℤ y) (convex : pos 0 ≤ℤ (c +ℤ k)) (forward : pos 0 ≤ℤ x → u ≡ c) (backward : x <ℤ pos 0 → u ≡ neg_ℤ k) (priced : pos 0 ≤ℤ ((u +ℤ p) -ℤ q)) where
  n : ℕ
  n = nat_abs (y -ℤ x)

  n_is : (y -ℤ x) ≡ pos (nat_abs (y -ℤ x))
  n_is = omega (arith, ints)

  by_price : ((q -ℤ p) *ℤ (y -ℤ x)) ≤ℤ (u *ℤ (y -ℤ x))
  by_price = rw n_is (mul_le_right_ℤ (nat_abs (y -ℤ x)) (q -ℤ p) u (omega (arith, ints)))

  by_convexity : (u *ℤ (y -ℤ x)) ≤ℤ ((c *ℤ rise x y) +ℤ (k *ℤ rise (neg_ℤ x) (neg_ℤ y)))
  by_convexity = elim (cases_lt_ℤ x (pos 0)) [
    | inr l ↦ omega (arith, ints, ap (λ (z : ℤ). z *ℤ (y -ℤ x)) (forward l), ap (λ (z : ℤ). c *ℤ z) (both_up l), ap (λ (z : ℤ). k *ℤ z) (none_back l), mul_zero_ℤ k)
    | inl l ↦ elim (cases_lt_ℤ (pos 0) y) [
      | inr m ↦ below_0 (u *ℤ (y -ℤ x)) (k *ℤ (y -ℤ x)) (k *ℤ y) (k *ℤ x) (c *ℤ rise x y) (k *ℤ rise (neg_ℤ x) (neg_ℤ y)) (ap (λ (z : ℤ). z *ℤ (y -ℤ x)) (backward l) ∙ neg_mul_ℤ k (y -ℤ x)) (mul_sub_ℤ k y x) (ap (λ (z : ℤ). c *ℤ z) (none_up l m) ∙ mul_zero_ℤ c) (ap (λ (z : ℤ). k *ℤ z) (both_back l m) ∙ mul_sub_ℤ k x y)
      | inl m ↦ through_0 (u *ℤ (y -ℤ x)) (k *ℤ (y -ℤ x)) (k *ℤ y) (k *ℤ x) (c *ℤ rise x y) (k *ℤ rise (neg_ℤ x) (neg_ℤ y)) (c *ℤ y) ((c +ℤ k) *ℤ y) (ap (λ (z : ℤ). z *ℤ (y -ℤ x)) (backward l) ∙ neg_mul_ℤ k (y -ℤ x)) (mul_sub_ℤ k y x) (ap (λ (z : ℤ). c *ℤ z) (up_from l m)) (ap (λ (z : ℤ). k *ℤ z) (back_to l m)) (add_mul_ℤ c k y) (mul_nonneg_ℤ (c +ℤ k) y convex (omega (arith, ints)))
    ]
  ]
    where
      both_up : pos 0 ≤ℤ x → rise x y ≡ (y -ℤ x)
      both_up l = omega (arith, ints, up_some x l, up_some y (omega (arith, ints)))

      none_back : pos 0 ≤ℤ x → rise (neg_ℤ x) (neg_ℤ y) ≡ pos 0
      none_back l = omega (arith, ints, up_none (neg_ℤ x) (omega (arith, ints)), up_none (neg_ℤ y) (omega (arith, ints)))

      none_up : x <ℤ pos 0 → y ≤ℤ pos 0 → rise x y ≡ pos 0
      none_up l m = omega (arith, ints, up_none x (omega (arith, ints)), up_none y m)

      both_back : x <ℤ pos 0 → y ≤ℤ pos 0 → rise (neg_ℤ x) (neg_ℤ y) ≡ (x -ℤ y)
      both_back l m = omega (arith, ints, up_some (neg_ℤ x) (omega (arith, ints)), up_some (neg_ℤ y) (omega (arith, ints)))

      up_from : x <ℤ pos 0 → pos 0 <ℤ y → rise x y ≡ y
      up_from l m = omega (arith, ints, up_none x (omega (arith, ints)), up_some y (omega (arith, ints)))

      back_to : x <ℤ pos 0 → pos 0 <ℤ y → rise (neg_ℤ x) (neg_ℤ y) ≡ x
      back_to l m = omega (arith, ints, up_some (neg_ℤ x) (omega (arith, ints)), up_none (neg_ℤ y) (omega (arith, ints)))

  pub edge_up : ((q -ℤ p) *ℤ (y -ℤ x)) ≤ℤ ((c *ℤ rise x y) +ℤ (k *ℤ rise (neg_ℤ x) (neg_ℤ y)))
  edge_up = omega (arith, ints, by_price, by_convexity)
