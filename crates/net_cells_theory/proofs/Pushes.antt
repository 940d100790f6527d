-- What is written is what has gone, from either side.
use Rattle.std.proofs.Common.{◌≡◌, ℕ, zero, suc, ◌+◌, ◌-◌, ◌<◌, ◌≤◌, ◌≢◌, ℤ, pos, negsuc, ◌+ℤ◌, ◌-ℤ◌, ◌≤ℤ◌, ◌<ℤ◌, neg_ℤ, nat_abs, List, sym, ap, ap₂, ◌∙◌, refl, subst, Bool, true, false, cond, arith}
use Rattle.std.proofs.lemmas.Int.{ints}
use Rattle.net_cells.specs.Net.{back, unit}
use Rattle.net_cells.specs.Lists.{head, signed, right_of, up_of, flow_of, flow_in, cost_of, cost_in}
use Rattle.net_cells.specs.declared.cell.Costs.{Costs}
use Rattle.net_cells.specs.declared.cell.Flows.{Flows}
use Rattle.net_cells.specs.declared.side.Side.{Side}
use Rattle.net_cells_theory.specs.Slots.{Added, SetCost, Pushed}
use Rattle.net_cells_theory.proofs.Slots.{head_home, head_some, head_apart, flow_back}
use Rattle.net_cells_theory.proofs.Ways.{back_less, back_twice}

pub unit_is : (p : ℕ) (z c : ℤ) → (pos 0 ≤ℤ z → c ≡ pos p) → (z <ℤ pos 0 → c ≡ neg_ℤ (pos p)) → c ≡ unit p z
unit_is p (pos n) c a b = a (omega (arith, ints))
unit_is p (negsuc n) c a b = b (omega (arith, ints))

module _ (flows flows' : List Flows) (costs costs₁ costs' : List Costs) (s u d p : ℕ) (one : 1 ≤ s) (low : s < u) (l : d < 4) where
  abbrev v : ℕ
  v = head s u d

  home : head s v (back d) ≡ u
  home = head_home s u d v l (head_some s u d one low) refl

  -- what costs are at both ends
  module _ (z : ℤ) (m : Added flows flows' s u d z) (c : SetCost costs costs₁ u d (unit p (flow_of flows' s u d))) (c' : SetCost costs₁ costs' v (back d) (unit p (neg_ℤ (flow_of flows' s u d)))) where
    at_tail : cost_of costs' u d ≡ unit p (flow_of flows' s u d)
    at_tail = c'.other u d l (λ e _. head_apart s u d one low (sym e)) ∙ c.here

    elsewhere : (w e : ℕ) → e < 4 → (w ≡ u → e ≡ d → ⊥) → (w ≡ v → e ≡ back d → ⊥) → cost_of costs' w e ≡ cost_of costs w e
    elsewhere w e k a b = c'.other w e k b ∙ c.other w e k a

    there : flow_of flows' s v (back d) ≡ flow_of flows s v (back d) -ℤ z
    there = omega (arith, ints, flow_back flows s u d one low l, flow_back flows' s u d one low l, m.here)

    pub ahead : nat_abs (cost_of costs u d) ≡ p → Pushed flows flows' costs costs' (record { stride = s; back = false }) u d z
    unfolding flow_in cost_in
    ahead price = record {
      here = m.here;
      there = there;
      other = m.other;
      cost_here = at_tail ∙ ap (λ (q : ℕ). unit q (flow_of flows' s u d)) (sym price);
      cost_there = c'.here ∙ ap (λ (q : ℕ). unit q (neg_ℤ (flow_of flows' s u d))) (sym price);
      cost_other = elsewhere;
      right = m.right;
      up = m.up;
    }

    -- seen from the back an edge's ends change places
    swapped : (w e : ℕ) → e < 4 → (w ≡ u → e ≡ d → ⊥) → (w ≡ v → e ≡ back d → ⊥) → cost_of costs' (head s w e) (back e) ≡ cost_of costs (head s w e) (back e)
    swapped w e k a b = elsewhere (head s w e) (back e) (back_less e k) first second
      where
        first : head s w e ≡ u → back e ≡ d → ⊥
        first x y = b (sym (head_home s w e u k (omega (arith, one, low)) x) ∙ ap (head s u) y) (sym (back_twice e k) ∙ ap back y)

        second : head s w e ≡ v → back e ≡ back d → ⊥
        second x y = a (sym (head_home s w e v k (head_some s u d one low) x) ∙ (ap (head s v) y ∙ home)) (sym (back_twice e k) ∙ (ap back y ∙ back_twice d l))

    twice : (x : ℤ) → neg_ℤ (neg_ℤ x) ≡ x
    twice x = omega (arith, ints)

    pub behind : nat_abs (cost_of costs v (back d)) ≡ p → Pushed flows flows' costs costs' (record { stride = s; back = true }) u d (neg_ℤ z)
    unfolding flow_in cost_in
    behind price = record {
      here = omega (arith, ints, m.here);
      there = omega (arith, ints, there);
      other = λ w e i k a b. ap neg_ℤ (m.other w e i k a b);
      cost_here = c'.here ∙ ap (λ (q : ℕ). unit q (neg_ℤ (flow_of flows' s u d))) (sym price);
      cost_there = ap₂ (cost_of costs') home (back_twice d l) ∙ (at_tail ∙ ap₂ unit (sym price) (sym (twice (flow_of flows' s u d))));
      cost_other = swapped;
      right = m.right;
      up = m.up;
    }

pub pushed : (flows flows' : List Flows) (costs costs₁ costs' : List Costs) (side : Side) (u d p : ℕ) (a : ℤ) → 1 ≤ side.stride → side.stride < u → d < 4 → nat_abs (cost_in costs side u d) ≡ p →
    Added flows flows' side.stride u d (signed side.back a) → SetCost costs costs₁ u d (unit p (flow_of flows' side.stride u d)) →
    SetCost costs₁ costs' (head side.stride u d) (back d) (unit p (neg_ℤ (flow_of flows' side.stride u d))) → Pushed flows flows' costs costs' side u d a
unfolding cost_in
pushed flows flows' costs costs₁ costs' side u d p a one low l price m c c' = by side.back refl
  where
    by : (b : Bool) → side.back ≡ b → Pushed flows flows' costs costs' side u d a
    by false e =
        subst (λ (x : Bool). Pushed flows flows' costs costs' (record { stride = side.stride; back = x }) u d a) (sym e)
        (ahead flows flows' costs costs₁ costs' side.stride u d p one low l a (subst (λ (x : Bool). Added flows flows' side.stride u d (signed x a)) e m) c c'
        (subst (λ (x : Bool). nat_abs (cond x (cost_of costs (head side.stride u d) (back d)) (cost_of costs u d)) ≡ p) e price))
    by true e =
        subst (λ (x : Bool). Pushed flows flows' costs costs' (record { stride = side.stride; back = x }) u d a) (sym e)
        (subst (λ (x : ℤ). Pushed flows flows' costs costs' (record { stride = side.stride; back = true }) u d x) (twice' a)
        (behind flows flows' costs costs₁ costs' side.stride u d p one low l (neg_ℤ a) (subst (λ (x : Bool). Added flows flows' side.stride u d (signed x a)) e m) c c'
        (subst (λ (x : Bool). nat_abs (cond x (cost_of costs (head side.stride u d) (back d)) (cost_of costs u d)) ≡ p) e price)))
      where
        twice' : (x : ℤ) → neg_ℤ (neg_ℤ x) ≡ x
        twice' x = omega (arith, ints)
