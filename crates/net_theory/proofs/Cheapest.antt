-- A flow that is priced costs no more than any other that meets the same supplies.
use Rattle.std.proofs.Common.{◌≡◌, ℕ, ◌<◌, Bool, true, false, cond, eqb, ℤ, pos, ◌+ℤ◌, ◌-ℤ◌, ◌*ℤ◌, neg_ℤ, ◌≤ℤ◌, ◌<ℤ◌, sym, refl, ap, ◌∙◌, inl, inr, arith}
use borrow.Author.Differences.{up}
use Rattle.std.proofs.lemmas.Int.{ints}
use Rattle.sums.specs.Sum.{sum_ℤ}
use Rattle.sums.proofs.Ring.{mul_sub_ℤ, sub_mul_ℤ, mul_neg_ℤ, mul_zero_ℤ}
use Rattle.sums.proofs.Sum.{sum_ℤ_ext, sum_ℤ_le, sum_ℤ_add, sum_ℤ_neg, sum_ℤ_sub, sum_ℤ_scale, sum_ℤ_zero}
use Rattle.sums.proofs.Points.{sum_by, sum_paired}
use Rattle.net_graph.specs.Graph.{Graph, IsNetwork, IsPseudoflow, IsReducedCostOptimal, outflow, unit_cost}
use Rattle.net_graph.proofs.Points.{cases_lt_ℤ, head_pair, unit_forward, unit_backward}
use Rattle.net_theory.specs.Theorems.{total_cost, Meets, ReducedCostOptimalIsCheapest}
use Rattle.net_theory.proofs.Edge.{rise, edge_up}

module _ (g : Graph) (w : IsNetwork g) (e x p : ℕ → ℤ) (fx : IsPseudoflow g x) (mx : Meets g x e) (px : IsReducedCostOptimal g x p) (y : ℕ → ℤ) (fy : IsPseudoflow g y) (my : Meets g y e) where
  -- what the other flow has more along an arc
  abbrev z : ℕ → ℤ
  z a = y a -ℤ x a

  -- what that costs more there
  abbrev q : ℕ → ℤ
  q a = g.cost a *ℤ rise (x a) (y a)

  abbrev d : ℕ → ℤ
  d a = (p (g.head a) -ℤ p (g.tail a)) *ℤ z a

  -- where more goes along the arc itself
  forth : (a : ℕ) → a < g.arcs → x a <ℤ y a → d a ≤ℤ (q a +ℤ (g.cost (g.pair a) *ℤ rise (neg_ℤ (x a)) (neg_ℤ (y a))))
  forth a h l = edge_up (g.cost a) (g.cost (g.pair a)) (x a) (y a) (unit_cost g x a) (p (g.tail a)) (p (g.head a)) l (w.arc a h).convex (unit_forward g x a) (unit_backward g x a) (px a h (omega (arith, ints, l, fy.within a h)))

  paired_q : (a : ℕ) → a < g.arcs → q (g.pair a) ≡ (g.cost (g.pair a) *ℤ rise (neg_ℤ (x a)) (neg_ℤ (y a)))
  paired_q a h = rw (fx.opposite a h, fy.opposite a h) refl

  paired_d : (a : ℕ) → a < g.arcs → d (g.pair a) ≡ d a
  paired_d a h =
      rw (fx.opposite a h, fy.opposite a h, head_pair g a w h, (w.arc a h).turned)
      (omega (arith, ints, ap (λ (i : ℤ). (p (g.tail a) -ℤ p (g.head a)) *ℤ i) turn, mul_neg_ℤ (p (g.tail a) -ℤ p (g.head a)) (y a -ℤ x a), sub_mul_ℤ (p (g.tail a)) (p (g.head a)) (y a -ℤ x a), sub_mul_ℤ (p (g.head a)) (p (g.tail a)) (y a -ℤ x a)))
    where
      turn : (neg_ℤ (y a) -ℤ neg_ℤ (x a)) ≡ neg_ℤ (y a -ℤ x a)
      turn = omega (arith, ints)

  each : (a : ℕ) → a < g.arcs → d a ≤ℤ (q a +ℤ q (g.pair a))
  each a h = elim (cases_lt_ℤ (x a) (y a)) [
    | inl l ↦ omega (arith, ints, forth a h l, paired_q a h)
    | inr l ↦ elim (cases_lt_ℤ (y a) (x a)) [
      | inl m ↦ omega (arith, ints, forth (g.pair a) b (omega (arith, ints, m, fx.opposite a h, fy.opposite a h)), paired_q (g.pair a) b, ap q (w.arc a h).back, paired_d a h)
      | inr m ↦ still (omega (arith, ints, l, m))
    ]
  ]
    where
      b : g.pair a < g.arcs
      b = (w.arc a h).pair

      still : y a ≡ x a → d a ≤ℤ (q a +ℤ q (g.pair a))
      still s =
          omega (arith, ints, ap (λ (i : ℤ). (p (g.head a) -ℤ p (g.tail a)) *ℤ i) no_more, mul_zero_ℤ (p (g.head a) -ℤ p (g.tail a)), ap (λ (i : ℤ). g.cost a *ℤ (pos (up i) -ℤ pos (up (x a)))) s, nothing (g.cost a) (x a), paired_q a h, ap (λ (i : ℤ). g.cost (g.pair a) *ℤ (pos (up (neg_ℤ i)) -ℤ pos (up (neg_ℤ (x a))))) s, nothing (g.cost (g.pair a)) (neg_ℤ (x a)))
        where
          no_more : (y a -ℤ x a) ≡ pos 0
          no_more = omega (arith, ints, s)

          nothing : (c i : ℤ) → c *ℤ rise i i ≡ pos 0
          nothing c i = ap (λ (j : ℤ). c *ℤ j) (omega (arith, ints)) ∙ mul_zero_ℤ c

  -- over all arcs, and each edge counted twice
  costs : sum_ℤ g.arcs d ≤ℤ (sum_ℤ g.arcs q +ℤ sum_ℤ g.arcs q)
  costs =
      omega (arith, ints, sum_ℤ_le g.arcs d (λ a. q a +ℤ q (g.pair a)) each, sum_ℤ_add g.arcs q (λ a. q (g.pair a)), sum_paired g.arcs g.pair q (λ a h. (w.arc a h).pair) (λ a h. (w.arc a h).back))

  -- by nodes: as both flows meet the same supplies, potentials count for nothing
  abbrev t : ℕ → ℤ
  t a = p (g.tail a) *ℤ z a

  at_node : (s : Bool) (pv i j : ℤ) → cond s (pv *ℤ (j -ℤ i)) (pos 0) ≡ (pv *ℤ (cond s j (pos 0) -ℤ cond s i (pos 0)))
  at_node true pv i j = refl
  at_node false pv i j = sym (mul_zero_ℤ pv)

  by_nodes : sum_ℤ g.arcs t ≡ pos 0
  unfolding outflow
  by_nodes =
      sym (sum_by g.arcs g.nodes g.tail (λ a v. p v *ℤ z a) (λ a h. (w.arc a h).tail))
      ∙ sum_ℤ_zero g.nodes (λ v. sum_ℤ g.arcs (λ a. cond (eqb (g.tail a) v) (p v *ℤ z a) (pos 0))) at_v
    where
      at_v : (v : ℕ) → v < g.nodes → sum_ℤ g.arcs (λ a. cond (eqb (g.tail a) v) (p v *ℤ z a) (pos 0)) ≡ pos 0
      at_v v h =
          sum_ℤ_ext g.arcs (λ a. cond (eqb (g.tail a) v) (p v *ℤ z a) (pos 0)) (λ a. p v *ℤ (cond (eqb (g.tail a) v) (y a) (pos 0) -ℤ cond (eqb (g.tail a) v) (x a) (pos 0))) (λ a l. at_node (eqb (g.tail a) v) (p v) (x a) (y a))
          ∙ (sum_ℤ_scale g.arcs (p v) (λ a. cond (eqb (g.tail a) v) (y a) (pos 0) -ℤ cond (eqb (g.tail a) v) (x a) (pos 0))
          ∙ (ap (λ (i : ℤ). p v *ℤ i) (omega (arith, ints, sum_ℤ_sub g.arcs (λ a. cond (eqb (g.tail a) v) (y a) (pos 0)) (λ a. cond (eqb (g.tail a) v) (x a) (pos 0)), mx v h, my v h)) ∙ mul_zero_ℤ (p v)))

  d_none : sum_ℤ g.arcs d ≡ pos 0
  d_none =
      omega (arith, ints, sum_ℤ_ext g.arcs d (λ a. neg_ℤ (t (g.pair a)) -ℤ t a) (λ a h. parted a h), sum_ℤ_sub g.arcs (λ a. neg_ℤ (t (g.pair a))) t, sum_ℤ_neg g.arcs (λ a. t (g.pair a)), sum_paired g.arcs g.pair t (λ a h. (w.arc a h).pair) (λ a h. (w.arc a h).back), by_nodes)
    where
      parted : (a : ℕ) → a < g.arcs → d a ≡ (neg_ℤ (t (g.pair a)) -ℤ t a)
      parted a h = omega (arith, ints, sub_mul_ℤ (p (g.head a)) (p (g.tail a)) (z a), turn)
        where
          turn : t (g.pair a) ≡ neg_ℤ (p (g.head a) *ℤ z a)
          turn = rw (fx.opposite a h, fy.opposite a h, (w.arc a h).turned) (ap (λ (i : ℤ). p (g.head a) *ℤ i) (omega (arith, ints)) ∙ mul_neg_ℤ (p (g.head a)) (y a -ℤ x a))

  pub cheaper : total_cost g x ≤ℤ total_cost g y
  unfolding total_cost
  cheaper = omega (arith, ints, costs, d_none, sum_ℤ_ext g.arcs q (λ a. (g.cost a *ℤ pos (up (y a))) -ℤ (g.cost a *ℤ pos (up (x a)))) (λ a h. mul_sub_ℤ (g.cost a) (pos (up (y a))) (pos (up (x a)))), sum_ℤ_sub g.arcs (λ a. g.cost a *ℤ pos (up (y a))) (λ a. g.cost a *ℤ pos (up (x a))))

pub priced_cheapest : ReducedCostOptimalIsCheapest
priced_cheapest g w e x p fx mx px y fy my = cheaper g w e x p fx mx px y fy my
