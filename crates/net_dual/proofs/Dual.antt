-- What potentials cost is at least what a flow says, and just that where they price it.
use Rattle.std.proofs.Common.{◌≡◌, ℕ, ◌<◌, Bool, true, false, cond, eqb, ◌⊎◌, ℤ, pos, ◌+ℤ◌, ◌-ℤ◌, ◌*ℤ◌, neg_ℤ, ◌≤ℤ◌, ◌<ℤ◌, sym, ap, ◌∙◌, inl, inr, arith}
use borrow.Author.Differences.{up}
use Rattle.std.proofs.lemmas.Int.{ints}
use Rattle.sums.specs.Sum.{sum_ℤ}
use Rattle.sums.proofs.Ring.{mul_sub_ℤ, sub_mul_ℤ, mul_comm_ℤ, neg_mul_ℤ, mul_zero_ℤ, zero_mul_ℤ, mul_le_left_ℤ, mul_le_right_ℤ}
use Rattle.sums.proofs.Sum.{sum_ℤ_ext, sum_ℤ_le, sum_ℤ_add, sum_ℤ_neg, sum_ℤ_sub, sum_ℤ_scale}
use Rattle.sums.proofs.Points.{sum_by, sum_paired}
use Rattle.net_graph.specs.Graph.{Graph, IsNetwork, IsPseudoflow, IsReducedCostOptimal, outflow}
use Rattle.net_graph.proofs.Points.{cases_lt_ℤ, head_pair, unit_forward, unit_backward}
use Rattle.net_theory.specs.Theorems.{total_cost, Meets}
use Rattle.net_dual.specs.Dual.{potential_cost, supply_value, FlowsBoundPotentials}
use Rattle.net_theory.proofs.Edge.{up_none, up_some}

-- ---- one arc, over plain numbers: x goes along it, l is its limit, c its cost, d by how much its head lies above its tail

-- what goes along it brings no more than the limit would
pub arc_bound : (x l c d : ℤ) → x ≤ℤ l → pos 0 ≤ℤ l → (pos (up x) *ℤ (d -ℤ c)) ≤ℤ (l *ℤ pos (up (d -ℤ c)))
arc_bound x l c d h k =
    let n : l ≡ pos (up l) = sym (up_some l k) in
    let m : pos (up x) ≤ℤ l = most (cases_lt_ℤ x (pos 0)) in
    omega (arith, ints, mul_le_left_ℤ (up x) (d -ℤ c) (pos (up (d -ℤ c))) (below (cases_lt_ℤ (d -ℤ c) (pos 0))), mul_le_right_ℤ (up (d -ℤ c)) (pos (up x)) l m)
  where
    most : (x <ℤ pos 0) ⊎ (pos 0 ≤ℤ x) → pos (up x) ≤ℤ l
    most (inl y) = omega (arith, ints, up_none x (omega (arith, ints)))
    most (inr y) = omega (arith, ints, up_some x y)

    below : ((d -ℤ c) <ℤ pos 0) ⊎ (pos 0 ≤ℤ (d -ℤ c)) → (d -ℤ c) ≤ℤ pos (up (d -ℤ c))
    below (inl y) = omega (arith, ints)
    below (inr y) = omega (arith, ints, up_some (d -ℤ c) y)

-- and just that, where what is priced has it so: k is what the pair costs, m its limit
module _ (x l c k m d : ℤ) (within : x ≤ℤ l) (within_back : neg_ℤ x ≤ℤ m) (allowed : pos 0 ≤ℤ l) (allowed_back : pos 0 ≤ℤ m) (convex : pos 0 ≤ℤ (c +ℤ k))
    (forth : pos 0 ≤ℤ x → x <ℤ l → d ≤ℤ c) (forth_less : x <ℤ pos 0 → x <ℤ l → d ≤ℤ neg_ℤ k) (back : pos 0 <ℤ x → neg_ℤ x <ℤ m → c ≤ℤ d) where
  both_none : up x ≡ 0 → (l *ℤ pos (up (d -ℤ c))) ≡ pos 0 → (l *ℤ pos (up (d -ℤ c))) ≡ (pos (up x) *ℤ (d -ℤ c))
  both_none e h = h ∙ (sym (zero_mul_ℤ (d -ℤ c)) ∙ ap (λ (n : ℕ). pos n *ℤ (d -ℤ c)) (sym e))

  no_more : d ≤ℤ c → (l *ℤ pos (up (d -ℤ c))) ≡ pos 0
  no_more h = ap (λ (n : ℕ). l *ℤ pos n) (up_none (d -ℤ c) (omega (arith, ints))) ∙ mul_zero_ℤ l

  pub arc_reached : (l *ℤ pos (up (d -ℤ c))) ≡ (pos (up x) *ℤ (d -ℤ c))
  arc_reached = elim (cases_lt_ℤ x (pos 0)) [
    | inl n ↦ both_none (up_none x (omega (arith, ints))) (no_more (omega (arith, ints, forth_less n (omega (arith, ints)))))
    | inr p ↦ elim (cases_lt_ℤ x l) [
      | inr f ↦ full p (omega (arith, ints))
      | inl o ↦ elim (cases_lt_ℤ (pos 0) x) [
        | inl s ↦ level (omega (arith, ints, forth p o, back s (omega (arith, ints))))
        | inr z ↦ both_none (up_none x z) (no_more (forth p o))
      ]
    ]
  ]
    where
      level : d ≡ c → (l *ℤ pos (up (d -ℤ c))) ≡ (pos (up x) *ℤ (d -ℤ c))
      level e =
          let z : (d -ℤ c) ≡ pos 0 = omega (arith, ints) in
          no_more (omega (arith, ints)) ∙ (sym (mul_zero_ℤ (pos (up x))) ∙ ap (λ (i : ℤ). pos (up x) *ℤ i) (sym z))

      full : pos 0 ≤ℤ x → x ≡ l → (l *ℤ pos (up (d -ℤ c))) ≡ (pos (up x) *ℤ (d -ℤ c))
      full p e = elim (cases_lt_ℤ (pos 0) x) [
        | inl s ↦ ap (λ (i : ℤ). l *ℤ i) (up_some (d -ℤ c) (omega (arith, ints, back s (omega (arith, ints))))) ∙ ap (λ (i : ℤ). i *ℤ (d -ℤ c)) (sym e ∙ sym (up_some x p))
        | inr z ↦ both_none (up_none x z) (ap (λ (i : ℤ). i *ℤ pos (up (d -ℤ c))) (none z) ∙ zero_mul_ℤ (pos (up (d -ℤ c))))
      ]
        where
          none : x ≤ℤ pos 0 → l ≡ pos 0
          none z = omega (arith, ints)

-- ---- all arcs of a network

module _ (g : Graph) (w : IsNetwork g) (e x : ℕ → ℤ) (fx : IsPseudoflow g x) (mx : Meets g x e) where
  -- what potentials bring along an arc
  abbrev lies : (ℕ → ℤ) → ℕ → ℤ
  lies q a = q (g.head a) -ℤ q (g.tail a)

  abbrev brings : (ℕ → ℤ) → ℕ → ℤ
  brings q a = pos (up (x a)) *ℤ (lies q a -ℤ g.cost a)

  -- what goes along an arc and comes at its tail
  abbrev out : (ℕ → ℤ) → ℕ → ℤ
  out q a = pos (up (x a)) *ℤ q (g.tail a)

  parts : (z : ℤ) → (pos (up (neg_ℤ z)) -ℤ pos (up z)) ≡ neg_ℤ z
  parts z = elim (cases_lt_ℤ z (pos 0)) [
    | inl l ↦ omega (arith, ints, up_none z (omega (arith, ints)), up_some (neg_ℤ z) (omega (arith, ints)))
    | inr l ↦ omega (arith, ints, up_some z l, up_none (neg_ℤ z) (omega (arith, ints)))
  ]

  -- both ways of an edge counted, what goes brings what leaves the tails, with the other sign
  across : (q : ℕ → ℤ) (a : ℕ) → a < g.arcs → (pos (up (x (g.pair a))) *ℤ q (g.head (g.pair a))) ≡ (neg_ℤ (x a) *ℤ q (g.tail a)) +ℤ out q a
  across q a h =
      rw (fx.opposite a h, head_pair g a w h)
      (omega (arith, ints, sub_mul_ℤ (pos (up (neg_ℤ (x a)))) (pos (up (x a))) (q (g.tail a)), ap (λ (i : ℤ). i *ℤ q (g.tail a)) (parts (x a))))

  by_node : (q : ℕ → ℤ) → sum_ℤ g.arcs (λ a. x a *ℤ q (g.tail a)) ≡ supply_value g e q
  unfolding outflow supply_value
  by_node q =
      sym (sum_by g.arcs g.nodes g.tail (λ a v. x a *ℤ q v) (λ a h. (w.arc a h).tail))
      ∙ sum_ℤ_ext g.nodes (λ v. sum_ℤ g.arcs (λ a. cond (eqb (g.tail a) v) (x a *ℤ q v) (pos 0))) (λ v. q v *ℤ e v) at_v
    where
      at_node : (s : Bool) (i j : ℤ) → cond s (i *ℤ j) (pos 0) ≡ (j *ℤ cond s i (pos 0))
      at_node true i j = mul_comm_ℤ i j
      at_node false i j = sym (mul_zero_ℤ j)

      at_v : (v : ℕ) → v < g.nodes → sum_ℤ g.arcs (λ a. cond (eqb (g.tail a) v) (x a *ℤ q v) (pos 0)) ≡ (q v *ℤ e v)
      at_v v h =
          sum_ℤ_ext g.arcs (λ a. cond (eqb (g.tail a) v) (x a *ℤ q v) (pos 0)) (λ a. q v *ℤ cond (eqb (g.tail a) v) (x a) (pos 0)) (λ a l. at_node (eqb (g.tail a) v) (x a) (q v))
          ∙ (sum_ℤ_scale g.arcs (q v) (λ a. cond (eqb (g.tail a) v) (x a) (pos 0)) ∙ ap (λ (i : ℤ). q v *ℤ i) (mx v h))

  -- over all arcs
  lies_in_all : (q : ℕ → ℤ) → sum_ℤ g.arcs (λ a. pos (up (x a)) *ℤ lies q a) ≡ neg_ℤ (supply_value g e q)
  lies_in_all q =
      let heads : ℕ → ℤ = λ a. pos (up (x a)) *ℤ q (g.head a) in
      omega (
        arith,
        ints,
        sum_ℤ_ext g.arcs (λ a. pos (up (x a)) *ℤ lies q a) (λ a. heads a -ℤ out q a) (λ a h. mul_sub_ℤ (pos (up (x a))) (q (g.head a)) (q (g.tail a))),
        sum_ℤ_sub g.arcs heads (out q),
        sum_paired g.arcs g.pair heads (λ a h. (w.arc a h).pair) (λ a h. (w.arc a h).back),
        sum_ℤ_ext g.arcs (λ a. heads (g.pair a)) (λ a. (neg_ℤ (x a) *ℤ q (g.tail a)) +ℤ out q a) (across q),
        sum_ℤ_add g.arcs (λ a. neg_ℤ (x a) *ℤ q (g.tail a)) (out q),
        sum_ℤ_ext g.arcs (λ a. neg_ℤ (x a) *ℤ q (g.tail a)) (λ a. neg_ℤ (x a *ℤ q (g.tail a))) (λ a h. neg_mul_ℤ (x a) (q (g.tail a))),
        sum_ℤ_neg g.arcs (λ a. x a *ℤ q (g.tail a)),
        by_node q,
      )

  brings_in_all : (q : ℕ → ℤ) → sum_ℤ g.arcs (brings q) ≡ (neg_ℤ (total_cost g x) -ℤ supply_value g e q)
  unfolding total_cost
  brings_in_all q =
      omega (
        arith,
        ints,
        sum_ℤ_ext g.arcs (brings q) (λ a. (pos (up (x a)) *ℤ lies q a) -ℤ (g.cost a *ℤ pos (up (x a)))) each,
        sum_ℤ_sub g.arcs (λ a. pos (up (x a)) *ℤ lies q a) (λ a. g.cost a *ℤ pos (up (x a))),
        lies_in_all q,
      )
    where
      each : (a : ℕ) → a < g.arcs → brings q a ≡ ((pos (up (x a)) *ℤ lies q a) -ℤ (g.cost a *ℤ pos (up (x a))))
      each a h = omega (arith, ints, mul_sub_ℤ (pos (up (x a))) (lies q a) (g.cost a), mul_comm_ℤ (pos (up (x a))) (g.cost a))

  pub flow_bounds : (q : ℕ → ℤ) → neg_ℤ (total_cost g x) ≤ℤ (potential_cost g q +ℤ supply_value g e q)
  unfolding potential_cost
  flow_bounds q =
      omega (
        arith,
        ints,
        brings_in_all q,
        sum_ℤ_le g.arcs (brings q) (λ a. g.limit a *ℤ pos (up (lies q a -ℤ g.cost a))) (λ a h. arc_bound (x a) (g.limit a) (g.cost a) (lies q a) (fx.within a h) (w.arc a h).allowed),
      )

  pub optimal_reaches : (p : ℕ → ℤ) → IsReducedCostOptimal g x p → (potential_cost g p +ℤ supply_value g e p) ≡ neg_ℤ (total_cost g x)
  unfolding potential_cost
  optimal_reaches p px =
      omega (arith, ints, brings_in_all p, sum_ℤ_ext g.arcs (λ a. g.limit a *ℤ pos (up (lies p a -ℤ g.cost a))) (brings p) each)
    where
      each : (a : ℕ) → a < g.arcs → (g.limit a *ℤ pos (up (lies p a -ℤ g.cost a))) ≡ brings p a
      each a h =
          let b : g.pair a < g.arcs = (w.arc a h).pair in
          arc_reached (x a) (g.limit a) (g.cost a) (g.cost (g.pair a)) (g.limit (g.pair a)) (lies p a)
          (fx.within a h) (omega (arith, ints, fx.within (g.pair a) b, fx.opposite a h)) (w.arc a h).allowed (w.arc (g.pair a) b).allowed (w.arc a h).convex
          (λ k l. omega (arith, ints, px a h l, unit_forward g x a k))
          (λ k l. omega (arith, ints, px a h l, unit_backward g x a k))
          (λ k l. omega (arith, ints, px (g.pair a) b (omega (arith, ints, l, fx.opposite a h)), unit_backward g x (g.pair a) (omega (arith, ints, k, fx.opposite a h)), ap g.cost (w.arc a h).back, ap p (head_pair g a w h), ap p (w.arc a h).turned))

pub flows_bound_potentials : FlowsBoundPotentials
flows_bound_potentials g w e x fx mx = (flow_bounds g w e x fx mx, optimal_reaches g w e x fx mx)
