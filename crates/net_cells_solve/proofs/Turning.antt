-- From one side to the other.
use Rattle.std.proofs.Common.{◌≡◌, ℕ, ◌+◌, ◌-◌, ◌^◌, ◌<◌, ◌≤◌, Bool, true, false, cond, List, length, ℤ, pos, ◌+ℤ◌, ◌-ℤ◌, neg_ℤ, ◌≤ℤ◌, ◌<ℤ◌, nat_abs, sym, ap, ap₂, ◌∙◌, subst, refl, arith}
use Rattle.std.proofs.lemmas.Int.{ints}
use Rattle.sums.proofs.Sum.{sum_ext}
use Rattle.net_cells.specs.Net.{Feasible, Ready, Paired, back, out, unit}
use Rattle.net_cells.specs.Lists.{view, head, signed, inner_of, excess_of, excess_in, potential_of, potential_in, flow_of, flow_in, cost_of, cost_in}
use Rattle.net_cells.specs.Fenced.{Fenced}
use Rattle.net_cells.specs.Sound.{Sound, Shrunk, Later, left_in}
use Rattle.net_cells.specs.declared.cell.Cell.{Cell}
use Rattle.net_cells.specs.declared.cell.Costs.{Costs}
use Rattle.net_cells.specs.declared.cell.Flows.{Flows}
use Rattle.net_cells.specs.declared.side.Side.{Side}
use Rattle.net_cells_theory.proofs.Slots.{head_home, head_some}
use Rattle.net_cells_theory.proofs.Ways.{back_twice}
use Rattle.net_cells_solve.specs.Listing.{ahead, behind}
use Rattle.net_cells_solve.proofs.Sending.{twin}

-- what is seen from y is what is seen from x, negated, and with the ends of edges exchanged
pub record Opposite (cells : List Cell) (flows : List Flows) (costs : List Costs) (x y : Side) : Type 0 where
  pub stride : y.stride ≡ x.stride
  pub cost : (u d : ℕ) → inner_of cells u ≡ true → d < 4 → cost_in costs y u d ≡ cost_in costs x (head x.stride u d) (back d)
  pub cost_back : (u d : ℕ) → inner_of cells u ≡ true → d < 4 → cost_in costs y (head x.stride u d) (back d) ≡ cost_in costs x u d
  pub excess : (v : ℕ) → excess_in cells y v ≡ neg_ℤ (excess_in cells x v)
  pub potential : (v : ℕ) → potential_in cells y v ≡ neg_ℤ (potential_in cells x v)
  pub flow : (u d : ℕ) → flow_in flows y u d ≡ neg_ℤ (flow_in flows x u d)

module _ (cells : List Cell) (flows : List Flows) (costs : List Costs) (s : ℕ) (one : 1 ≤ s) (low : (u : ℕ) → inner_of cells u ≡ true → s < u) where
  swapped : (u d : ℕ) → inner_of cells u ≡ true → d < 4 → cost_of costs (head s (head s u d) (back d)) (back (back d)) ≡ cost_of costs u d
  swapped u d i l = ap₂ (cost_of costs) (head_home s u d (head s u d) l (head_some s u d one (low u i)) refl) (back_twice d l)

  pub to_behind : Opposite cells flows costs (ahead s) (behind s)
  unfolding cost_in excess_in potential_in flow_in
  to_behind = record { stride = refl; cost = λ u d _ _. refl; cost_back = swapped; excess = λ v. refl; potential = λ v. refl; flow = λ u d. refl }

  twice : (z : ℤ) → z ≡ neg_ℤ (neg_ℤ z)
  twice z = omega (arith, ints)

  pub to_ahead : Opposite cells flows costs (behind s) (ahead s)
  unfolding cost_in excess_in potential_in flow_in
  to_ahead = record {
    stride = refl;
    cost = λ u d i l. sym (swapped u d i l);
    cost_back = λ u d _ _. refl;
    excess = λ v. twice (excess_of cells v);
    potential = λ v. twice (potential_of cells v);
    flow = λ u d. twice (flow_of flows s u d);
  }

module _ (cells : List Cell) (flows : List Flows) (costs : List Costs) (x y : Side) (o : Opposite cells flows costs x y) where
  same_head : (u d : ℕ) → head y.stride u d ≡ head x.stride u d
  same_head u d = ap (λ (s : ℕ). head s u d) o.stride

  pub turned_fence : Fenced cells costs x → Fenced cells costs y
  turned_fence f = record {
    size = f.size;
    priced = f.priced;
    stride = rw o.stride f.stride;
    low = rw o.stride f.low;
    high = rw o.stride f.high;
    cost = λ u d i l. omega (arith, ap nat_abs (o.cost u d i l), f.cost_back u d i l);
    cost_back = λ u d i l. omega (arith, ap (λ (v : ℕ). nat_abs (cost_in costs y v (back d))) (same_head u d), ap nat_abs (o.cost_back u d i l), f.cost u d i l);
  }

  turned_feasible : Feasible (view cells costs x) → Feasible (view cells costs y)
  turned_feasible f = record {
    paired = rw o.stride (record { home = f.paired.home; apart = f.paired.apart });
    forward = λ u d i l. omega (arith, ints, f.backward u d i l, o.cost u d i l, o.potential u, o.potential (head x.stride u d), ap (potential_in cells y) (same_head u d));
    backward = λ u d i l.
        omega (arith, ints, f.forward u d i l, ap (λ (v : ℕ). cost_in costs y v (back d)) (same_head u d), o.cost_back u d i l, o.potential u, o.potential (head x.stride u d), ap (potential_in cells y) (same_head u d));
    outside = λ v i. omega (arith, ints, o.potential v, f.outside v i);
  }

  price_is : Ready (view cells costs x) (flow_in flows x) → (u d : ℕ) → inner_of cells u ≡ true → d < 4 → nat_abs (cost_in costs y u d) ≡ nat_abs (cost_in costs x u d)
  price_is r u d i l = ap nat_abs (o.cost u d i l) ∙ twin cells costs x (flow_in flows x) u d r i l

  turned_ready : Ready (view cells costs x) (flow_in flows x) → Ready (view cells costs y) (flow_in flows y)
  turned_ready r = record {
    here = λ u d i l. o.cost u d i l ∙ (r.there u d i l ∙ ap₂ unit (sym (price_is r u d i l)) (sym (o.flow u d)));
    there = λ u d i l.
        ap (λ (v : ℕ). cost_in costs y v (back d)) (same_head u d)
        ∙ (o.cost_back u d i l ∙ (r.here u d i l ∙ ap₂ unit (sym (price_is r u d i l)) (again u d)));
  }
    where
      again : (u d : ℕ) → flow_in flows x u d ≡ neg_ℤ (flow_in flows y u d)
      again u d = omega (arith, ints, o.flow u d)

  pub same_left : left_in cells y ≡ left_in cells x
  same_left =
      sum_ext (length cells) (λ v. cond (inner_of cells v) (nat_abs (excess_in cells y v)) 0) (λ v. cond (inner_of cells v) (nat_abs (excess_in cells x v)) 0)
      (λ v _. ap (λ (n : ℕ). cond (inner_of cells v) n 0) (same_abs (excess_in cells x v) (excess_in cells y v) (o.excess v)))
    where
      same_abs : (a b : ℤ) → b ≡ neg_ℤ a → nat_abs b ≡ nat_abs a
      same_abs a b e = omega (arith, ints)

  pub turned : Sound cells flows costs x → Sound cells flows costs y
  turned w = record {
    lengths = w.lengths;
    feasible = turned_feasible w.feasible;
    ready = turned_ready w.ready;
    room = λ u d i l. omega (arith, ints, same_left, ap nat_abs (o.flow u d), w.room u d i l, negated (flow_in flows x u d));
  }
    where
      negated : (z : ℤ) → nat_abs (neg_ℤ z) ≡ nat_abs z
      negated z = omega (arith, ints)

  pub same_price : Sound cells flows costs x → (u d : ℕ) → inner_of cells u ≡ true → d < 4 → nat_abs (cost_in costs y u d) ≡ nat_abs (cost_in costs x u d)
  same_price w = price_is w.ready

-- what stays, seen from the other side
pub turned_later : (cells cells' : List Cell) (flows flows' : List Flows) (costs costs' : List Costs) (x y : Side) → Opposite cells flows costs x y → Opposite cells' flows' costs' x y → Sound cells flows costs x →
    Sound cells' flows' costs' x → Later cells cells' flows flows' costs costs' x → Later cells cells' flows flows' costs costs' y
turned_later cells cells' flows flows' costs costs' x y o o' w w' l = record {
  inner = l.inner;
  price = λ u d i k. same_price cells' flows' costs' x y o' w' u d (l.inner u ∙ i) k ∙ (l.price u d i k ∙ sym (same_price cells flows costs x y o w u d i k));
  supply = λ u i.
      omega (arith, ints, l.supply u i, o.excess u, o'.excess u, o.flow u 0, o.flow u 1, o.flow u 2, o.flow u 3, o'.flow u 0, o'.flow u 1, o'.flow u 2, o'.flow u 3);
  right = l.right;
  up = rw o.stride l.up;
  shrunk = λ u i. negated (excess_in cells x u) (excess_in cells' x u) (excess_in cells y u) (excess_in cells' y u) (o.excess u) (o'.excess u) (l.shrunk u i);
  few = λ u d i k.
      omega (arith, l.few u d i k, same_left cells flows costs x y o, same_left cells' flows' costs' x y o', alike (flow_in flows x u d) (flow_in flows y u d) (o.flow u d), alike (flow_in flows' x u d) (flow_in flows' y u d) (o'.flow u d));
}
  where
    alike : (a b : ℤ) → b ≡ neg_ℤ a → nat_abs b ≡ nat_abs a
    alike a b e = omega (arith, ints)

    negated : (a b c d : ℤ) → c ≡ neg_ℤ a → d ≡ neg_ℤ b → Shrunk a b → Shrunk c d
    negated a b c d p q s = record {
      above = λ h. omega (arith, ints, s.not_above (omega (arith, ints)));
      not_above = λ h. omega (arith, ints, s.above (omega (arith, ints)));
      less = omega (arith, ints, s.less);
    }
