-- What is at one place only, unit costs and residual capacities by the sign of the flow, and what an arc's laws say of its pair.
use Rattle.std.proofs.Common.{◌≡◌, ℕ, zero, suc, ◌+◌, ◌-◌, ◌<◌, ◌≤◌, Bool, true, false, cond, eqb, ◌⊎◌, ℤ, pos, ◌-ℤ◌, neg_ℤ, nat_abs, ◌≤ℤ◌, ◌<ℤ◌, sym, refl, ap, ◌∙◌, inl, inr, arith}
use lib.Signed.{lt_z}
use Rattle.std.proofs.lemmas.Int.{ints}
use Rattle.std.proofs.lemmas.Bool.{eq-eqb, ne_eqb, cases_eq, cases_order, cond-true, cond-false}
use Rattle.net_graph.specs.Graph.{Graph, at, IsArc, IsNetwork, unit_cost, residual_capacity}

pub lt_yes : (a b : ℤ) → a <ℤ b → lt_z a b ≡ true
lt_yes a b h = grind (arith, ints)

pub lt_no : (a b : ℤ) → b ≤ℤ a → lt_z a b ≡ false
lt_no a b h = grind (arith, ints)

pub yes_lt : (a b : ℤ) → lt_z a b ≡ true → a <ℤ b
yes_lt a b h = omega (arith, ints)

pub no_lt : (a b : ℤ) → lt_z a b ≡ false → b ≤ℤ a
no_lt a b h = omega (arith, ints)

pub cases_lt_ℤ : (a b : ℤ) → (a <ℤ b) ⊎ (b ≤ℤ a)
cases_lt_ℤ a b = by (lt_z a b) refl
  where
    by : (t : Bool) → lt_z a b ≡ t → (a <ℤ b) ⊎ (b ≤ℤ a)
    by true e = inl (yes_lt a b e)
    by false e = inr (no_lt a b e)

pub at_same : (k i : ℕ) (z : ℤ) → i ≡ k → at k z i ≡ z
at_same k i z e = cond-true (eqb i k) z (pos 0) (eq-eqb i k e)

pub at_other : (k i : ℕ) (z : ℤ) → (i ≡ k → ⊥) → at k z i ≡ pos 0
at_other k i z ne = cond-false (eqb i k) z (pos 0) (ne_eqb i k ne)

pub at_neg : (k i : ℕ) (m z : ℤ) → m ≡ neg_ℤ z → at k m i ≡ neg_ℤ (at k z i)
at_neg k i m z e = elim (cases_eq i k) [
  | inl s ↦ omega (arith, ints, e, at_same k i m s, at_same k i z s)
  | inr n ↦ omega (arith, ints, at_other k i m n, at_other k i z n)
]

pub unit_forward : (g : Graph) (x : ℕ → ℤ) (a : ℕ) → pos 0 ≤ℤ x a → unit_cost g x a ≡ g.cost a
unit_forward g x a h = cond-false (lt_z (x a) (pos 0)) (neg_ℤ (g.cost (g.pair a))) (g.cost a) (lt_no (x a) (pos 0) h)

pub unit_backward : (g : Graph) (x : ℕ → ℤ) (a : ℕ) → x a <ℤ pos 0 → unit_cost g x a ≡ neg_ℤ (g.cost (g.pair a))
unit_backward g x a h = cond-true (lt_z (x a) (pos 0)) (neg_ℤ (g.cost (g.pair a))) (g.cost a) (lt_yes (x a) (pos 0) h)

pub unit_same : (g : Graph) (x y : ℕ → ℤ) (a : ℕ) → x a ≡ y a → unit_cost g x a ≡ unit_cost g y a
unit_same g x y a e = ap (λ (z : ℤ). cond (lt_z z (pos 0)) (neg_ℤ (g.cost (g.pair a))) (g.cost a)) e

pub residual_forward : (g : Graph) (x : ℕ → ℤ) (a : ℕ) → pos 0 ≤ℤ x a → residual_capacity g x a ≡ (g.limit a -ℤ x a)
residual_forward g x a h = cond-false (lt_z (x a) (pos 0)) (neg_ℤ (x a)) (g.limit a -ℤ x a) (lt_no (x a) (pos 0) h)

pub residual_backward : (g : Graph) (x : ℕ → ℤ) (a : ℕ) → x a <ℤ pos 0 → residual_capacity g x a ≡ neg_ℤ (x a)
residual_backward g x a h = cond-true (lt_z (x a) (pos 0)) (neg_ℤ (x a)) (g.limit a -ℤ x a) (lt_yes (x a) (pos 0) h)

pub residual_same : (g : Graph) (x y : ℕ → ℤ) (a : ℕ) → x a ≡ y a → residual_capacity g x a ≡ residual_capacity g y a
residual_same g x y a e = ap (λ (z : ℤ). cond (lt_z z (pos 0)) (neg_ℤ z) (g.limit a -ℤ z)) e

-- an arc that can take more takes at least one unit at its present cost
pub residual_open : (g : Graph) (x : ℕ → ℤ) (a : ℕ) → x a <ℤ g.limit a → pos 0 <ℤ residual_capacity g x a
residual_open g x a h = elim (cases_lt_ℤ (x a) (pos 0)) [
  | inl l ↦ omega (arith, ints, residual_backward g x a l)
  | inr l ↦ omega (arith, ints, residual_forward g x a l)
]

-- no unit costs more than 2 ^ 30
pub unit_small : (g : Graph) (x : ℕ → ℤ) (a : ℕ) → IsNetwork g → a < g.arcs → nat_abs (unit_cost g x a) ≤ 1073741824
unit_small g x a w l = elim (cases_lt_ℤ (x a) (pos 0)) [
  | inl h ↦ omega (arith, ints, unit_backward g x a h, (w.arc (g.pair a) (w.arc a l).pair).cheap)
  | inr h ↦ omega (arith, ints, unit_forward g x a h, (w.arc a l).cheap)
]

-- the pair of an arc: its tail is the head and its head the tail
pub head_pair : (g : Graph) (a : ℕ) → IsNetwork g → a < g.arcs → g.head (g.pair a) ≡ g.tail a
head_pair g a w l = sym (w.arc (g.pair a) (w.arc a l).pair).turned ∙ ap g.tail (w.arc a l).back

-- the arcs between first v and first (v + 1) are those of v
rising : (g : Graph) → IsNetwork g → (v k : ℕ) → v + k ≤ g.nodes → g.first v ≤ g.first (v + k)
rising g w v zero h = omega (arith, ap g.first e)
  where
    e : v ≡ v + 0
    e = omega arith
rising g w v (suc k) h = omega (arith, rising g w v k (omega arith), w.rises (v + k) (omega arith), ap g.first e)
  where
    e : v + k + 1 ≡ v + suc k
    e = omega arith

pub rising_to : (g : Graph) → IsNetwork g → (u v : ℕ) → u ≤ v → v ≤ g.nodes → g.first u ≤ g.first v
rising_to g w u v h k = omega (arith, rising g w u (v - u) (omega arith), ap g.first e)
  where
    e : u + (v - u) ≡ v
    e = omega arith

pub within_arcs : (g : Graph) → IsNetwork g → (v a : ℕ) → v < g.nodes → a < g.first (v + 1) → a < g.arcs
within_arcs g w v a h l = omega (arith, rising_to g w (v + 1) g.nodes (omega arith) (omega arith), w.ends)

pub tail_is : (g : Graph) → IsNetwork g → (v a : ℕ) → v < g.nodes → g.first v ≤ a → a < g.first (v + 1) → g.tail a ≡ v
tail_is g w v a h f l = elim (cases_order (g.tail a) v) [
  | inl e ↦ e
  | inr (inl low) ↦ absurd (omega (arith, A.below, rising_to g w (g.tail a + 1) v (omega arith) (omega arith)))
  | inr (inr high) ↦ absurd (omega (arith, A.from, A.tail, rising_to g w (v + 1) (g.tail a) (omega arith) (omega (arith, A.tail))))
]
  where
    A : IsArc g a
    A = w.arc a (within_arcs g w v a h l)
