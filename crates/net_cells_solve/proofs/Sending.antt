-- What sending leaves.
use Rattle.std.proofs.Common.{◌≡◌, ℕ, zero, suc, ◌+◌, ◌-◌, ◌^◌, ◌<◌, ◌≤◌, ◌≢◌, ◌⊎◌, Bool, true, false, cond, List, length, ℤ, pos, ◌+ℤ◌, ◌-ℤ◌, ◌≤ℤ◌, ◌<ℤ◌, neg_ℤ, nat_abs, sym, ap, ap₂, ◌∙◌, subst, refl, inl, inr, arith}
use Rattle.std.proofs.lemmas.Int.{ints}
use Rattle.std.proofs.lemmas.Bool.{cases_eq, cases_Bool, both_ways, cond-true, cond-false}
use Rattle.sums.specs.Sum.{sum_to}
use Rattle.sums.proofs.Sum.{sum_le, member_le_sum}
use Rattle.net_cells.specs.Net.{Residual, Feasible, Ready, back, out, unit, reduced}
use Rattle.net_cells.specs.Moves.{left, at}
use Rattle.net_cells.specs.Lists.{view, head, signed, inner_of, excess_of, potential_of, excess_in, potential_in, flow_of, flow_in, cost_in}
use Rattle.net_cells.specs.Fenced.{Fenced}
use Rattle.net_cells.specs.Sound.{Sound, Shrunk, Later, left_in, supply_in}
use Rattle.net_cells.specs.declared.cell.Cell.{Cell}
use Rattle.net_cells.specs.declared.cell.Costs.{Costs}
use Rattle.net_cells.specs.declared.cell.Flows.{Flows}
use Rattle.net_cells.specs.declared.cell.Mark.{Mark}
use Rattle.net_cells.specs.declared.side.Side.{Side}
use Rattle.net_cells_theory.proofs.Edge.{unit_price}
use Rattle.net_cells_theory.proofs.Fences.{signed_more, abs_signed}
use Rattle.net_cells_solve.specs.Walk.{Sending, Accounted}
use Rattle.net_cells_solve.proofs.Walking.{at_same, at_other}

-- where one member falls by a and none grows the sum falls by a
pub falls_by : (m u a : ℕ) (g h : ℕ → ℕ) → u < m → g u + a ≤ h u → ((i : ℕ) → i < m → g i ≤ h i) → sum_to m g + a ≤ sum_to m h
unfolding sum_to
falls_by zero u a g h l f e = absurd (omega arith)
falls_by (suc m) u a g h l f e = elim (cases_eq u m) [
  | inl z ↦ omega (arith, sum_le m g h (λ i j. e i (omega arith)), ap g z, ap h z)
  | inr z ↦ omega (arith, falls_by m u a g h (omega arith) f (λ i j. e i (omega arith)), e m (omega arith))
]

pub excess_left : (m : ℕ) (inner : ℕ → Bool) (excess : ℕ → ℤ) (v : ℕ) → v < m → inner v ≡ true → nat_abs (excess v) ≤ left m inner excess
excess_left m inner excess v l i = omega (arith, member_le_sum m v (λ w. cond (inner w) (nat_abs (excess w)) 0) l, cond-true (inner v) (nat_abs (excess v)) 0 i)

-- the same net with other cells
pub same_feasible : (cells cells' : List Cell) (costs : List Costs) (side : Side) → ((w : ℕ) → inner_of cells' w ≡ inner_of cells w) → ((w : ℕ) → potential_in cells' side w ≡ potential_in cells side w) →
    Feasible (view cells costs side) → Feasible (view cells' costs side)
same_feasible cells cells' costs side i p f = record {
  paired = record { home = λ u d j l. f.paired.home u d (sym (i u) ∙ j) l; apart = λ u d j l. f.paired.apart u d (sym (i u) ∙ j) l };
  forward = λ u d j l. omega (arith, ints, f.forward u d (sym (i u) ∙ j) l, p u, p (head side.stride u d));
  backward = λ u d j l. omega (arith, ints, f.backward u d (sym (i u) ∙ j) l, p u, p (head side.stride u d));
  outside = λ v j. p v ∙ f.outside v (sym (i v) ∙ j);
}

pub same_ready : (cells cells' : List Cell) (costs : List Costs) (side : Side) (flow : ℕ → ℕ → ℤ) → ((w : ℕ) → inner_of cells' w ≡ inner_of cells w) → Ready (view cells costs side) flow → Ready (view cells' costs side) flow
same_ready cells cells' costs side flow i r = record { here = λ u d j l. r.here u d (sym (i u) ∙ j) l; there = λ u d j l. r.there u d (sym (i u) ∙ j) l }

pub same_fence : (cells cells' : List Cell) (costs costs' : List Costs) (side : Side) → length cells' ≡ length cells → length costs' ≡ length costs → ((w : ℕ) → inner_of cells' w ≡ inner_of cells w) →
    ((u d : ℕ) → inner_of cells u ≡ true → d < 4 → nat_abs (cost_in costs' side u d) ≡ nat_abs (cost_in costs side u d)) →
    ((u d : ℕ) → inner_of cells u ≡ true → d < 4 → nat_abs (cost_in costs' side (head side.stride u d) (back d)) ≡ nat_abs (cost_in costs side (head side.stride u d) (back d))) →
    Fenced cells costs side → Fenced cells' costs' side
same_fence cells cells' costs costs' side l m i p q f = record {
  size = omega (arith, f.size);
  priced = omega (arith, f.priced);
  stride = f.stride;
  low = λ u j. f.low u (sym (i u) ∙ j);
  high = λ u j. omega (arith, f.high u (sym (i u) ∙ j));
  cost = λ u d j k. omega (arith, p u d (sym (i u) ∙ j) k, f.cost u d (sym (i u) ∙ j) k);
  cost_back = λ u d j k. omega (arith, q u d (sym (i u) ∙ j) k, f.cost_back u d (sym (i u) ∙ j) k);
}

-- an edge costs as much at its other end
pub twin : (cells : List Cell) (costs : List Costs) (side : Side) (flow : ℕ → ℕ → ℤ) (u d : ℕ) → Ready (view cells costs side) flow → inner_of cells u ≡ true → d < 4 →
    nat_abs (cost_in costs side (head side.stride u d) (back d)) ≡ nat_abs (cost_in costs side u d)
twin cells costs side flow u d r i l = ap nat_abs (r.there u d i l) ∙ unit_price (nat_abs (cost_in costs side u d)) (neg_ℤ (flow u d))

module _ (cells cells' : List Cell) (flows flows' : List Flows) (costs costs' : List Costs) (side : Side) (marks : List Mark) (source target : ℕ) (a : ℤ) (f : Fenced cells costs side) (w : Sound cells flows costs side)
    (cell : source < length cells) (inner : inner_of cells source ≡ true) (some : pos 0 <ℤ a) (enough : a ≤ℤ excess_in cells side source)
    (wanted : inner_of cells target ≡ true → a ≤ℤ neg_ℤ (excess_in cells side target)) (s : Sending cells flows flows' costs costs' side marks source target source a) (c : Accounted cells cells' side source target a)
    (n : length cells' ≡ length cells) (m : length costs' ≡ length costs) (k : length flows' ≡ length flows) where
  apart : source ≢ target
  apart e = let i : inner_of cells target ≡ true = ap (inner_of cells) (sym e) ∙ inner in omega (arith, ints, wanted i, ap (excess_in cells side) e)

  pub shrunk : (u : ℕ) → inner_of cells u ≡ true → Shrunk (excess_in cells side u) (excess_in cells' side u)
  shrunk u i = elim (cases_eq u source) [
    | inl e ↦ by_less (excess_in cells side u) (excess_in cells' side u) (omega (arith, ints, ap (excess_in cells side) e, ap (excess_in cells' side) e, c.from)) (omega (arith, ints, ap (excess_in cells side) e))
    | inr ne ↦ elim (cases_eq u target) [
      | inl e ↦ by_more (excess_in cells side u) (excess_in cells' side u) (omega (arith, ints, ap (excess_in cells side) e, ap (excess_in cells' side) e, c.to (ap (inner_of cells) (sym e) ∙ i)))
          (omega (arith, ints, ap (excess_in cells side) e, wanted (ap (inner_of cells) (sym e) ∙ i)))
      | inr ne' ↦ by_same (excess_in cells side u) (excess_in cells' side u) (c.kept u ne ne')
    ]
  ]
    where
      by_less : (x y : ℤ) → y ≡ x -ℤ a → a ≤ℤ x → Shrunk x y
      by_less x y e l = record { above = λ h. omega (arith, ints); not_above = λ h. omega (arith, ints); less = omega (arith, ints) }

      by_more : (x y : ℤ) → y ≡ x +ℤ a → a ≤ℤ neg_ℤ x → Shrunk x y
      by_more x y e l = record { above = λ h. omega (arith, ints); not_above = λ h. omega (arith, ints); less = omega (arith, ints) }

      by_same : (x y : ℤ) → y ≡ x → Shrunk x y
      by_same x y e = record { above = λ h. omega (arith, ints); not_above = λ h. omega (arith, ints); less = omega (arith, ap nat_abs e) }

  pub less : left_in cells' side + nat_abs a ≤ left_in cells side
  less = rw n (falls_by (length cells) source (nat_abs a) (λ v. cond (inner_of cells' v) (nat_abs (excess_in cells' side v)) 0) (λ v. cond (inner_of cells v) (nat_abs (excess_in cells side v)) 0) cell at_source (λ v _. each v))
    where
      at_source : cond (inner_of cells' source) (nat_abs (excess_in cells' side source)) 0 + nat_abs a ≤ cond (inner_of cells source) (nat_abs (excess_in cells side source)) 0
      at_source =
          omega (
            arith,
            ints,
            cond-true (inner_of cells' source) (nat_abs (excess_in cells' side source)) 0 (c.inner source ∙ inner),
            cond-true (inner_of cells source) (nat_abs (excess_in cells side source)) 0 inner,
            smaller (excess_in cells side source) (excess_in cells' side source) c.from enough,
          )
        where
          smaller : (x y : ℤ) → y ≡ x -ℤ a → a ≤ℤ x → nat_abs y + nat_abs a ≤ nat_abs x
          smaller x y e l = omega (arith, ints, some)

      each : (v : ℕ) → cond (inner_of cells' v) (nat_abs (excess_in cells' side v)) 0 ≤ cond (inner_of cells v) (nat_abs (excess_in cells side v)) 0
      each v = elim (cases_Bool (inner_of cells v)) [
        | inl i ↦ omega (arith, cond-true (inner_of cells' v) (nat_abs (excess_in cells' side v)) 0 (c.inner v ∙ i), cond-true (inner_of cells v) (nat_abs (excess_in cells side v)) 0 i, (shrunk v i).less)
        | inr i ↦ omega (arith, cond-false (inner_of cells' v) (nat_abs (excess_in cells' side v)) 0 (c.inner v ∙ i))
      ]

  supply : (u : ℕ) → inner_of cells u ≡ true → supply_in cells' flows' side u ≡ supply_in cells flows side u
  supply u i = elim (cases_eq u source) [
    | inl e ↦ omega (arith, ints, s.flows_out u i, at_same source u a e, at_other target u a (λ z. apart (sym e ∙ z)), ap (excess_in cells side) e, ap (excess_in cells' side) e, c.from)
    | inr ne ↦ elim (cases_eq u target) [
      | inl e ↦ omega (arith, ints, s.flows_out u i, at_other source u a ne, at_same target u a e, ap (excess_in cells side) e, ap (excess_in cells' side) e, c.to (ap (inner_of cells) (sym e) ∙ i))
      | inr ne' ↦ omega (arith, ints, s.flows_out u i, at_other source u a ne, at_other target u a ne', c.kept u ne ne')
    ]
  ]

  pub later : Later cells cells' flows flows' costs costs' side
  later = record { inner = c.inner; price = s.price; supply = supply; right = s.right; up = s.up; shrunk = shrunk; few = λ u d i l. omega (arith, less, s.grown u d i l) }

  pub sound : Sound cells' flows' costs' side
  sound = record {
    lengths = k ∙ (w.lengths ∙ sym n);
    feasible = same_feasible cells cells' costs' side c.inner c.potential s.feasible;
    ready = same_ready cells cells' costs' side (flow_in flows' side) c.inner s.ready;
    room = λ u d i l. omega (arith, less, s.grown u d (sym (c.inner u) ∙ i) l, w.room u d (sym (c.inner u) ∙ i) l);
  }

  pub fence : Fenced cells' costs' side
  fence =
      same_fence cells cells' costs costs' side n m c.inner s.price
      (λ u d i l. twin cells costs' side (flow_in flows' side) u d s.ready i l ∙ (s.price u d i l ∙ sym (twin cells costs side (flow_in flows side) u d w.ready i l))) f

signed_less : (b : Bool) (x a : ℤ) → signed b (x -ℤ signed b a) ≡ signed b x -ℤ a
signed_less true x a = omega (arith, ints)
signed_less false x a = omega (arith, ints)

module _ (cells mid new : List Cell) (side : Side) (source target : ℕ) (a sent : ℤ) (is : sent ≡ signed side.back a) (ne : source ≢ target) (first : excess_of mid source ≡ excess_of cells source -ℤ sent)
    (kept : (w : ℕ) → (w ≢ source) → excess_of mid w ≡ excess_of cells w) (inner : (w : ℕ) → inner_of mid w ≡ inner_of cells w) (potential : (w : ℕ) → potential_of mid w ≡ potential_of cells w) where
  taken_off : signed side.back (excess_of mid source) ≡ signed side.back (excess_of cells source) -ℤ a
  taken_off = ap (signed side.back) (first ∙ ap (λ (z : ℤ). excess_of cells source -ℤ z) is) ∙ signed_less side.back (excess_of cells source) a

  pub account_one : inner_of mid target ≡ false → Accounted cells mid side source target a
  unfolding excess_in potential_in
  account_one o = record {
    from = taken_off;
    to = λ i. absurd (both_ways (inner_of cells target) (sym (inner target) ∙ o) i);
    kept = λ w p q. ap (signed side.back) (kept w p);
    inner = inner;
    potential = λ w. ap (signed side.back) (potential w);
  }

  pub account_both : excess_of new target ≡ excess_of mid target +ℤ sent → ((w : ℕ) → (w ≢ target) → excess_of new w ≡ excess_of mid w) → ((w : ℕ) → inner_of new w ≡ inner_of mid w) → ((w : ℕ) → potential_of new w ≡ potential_of mid w) →
      Accounted cells new side source target a
  unfolding excess_in potential_in
  account_both second kept' inner' potential' = record {
    from = ap (signed side.back) (kept' source ne) ∙ taken_off;
    to = λ i. ap (signed side.back) (second ∙ ap₂ (λ (x y : ℤ). x +ℤ y) (kept target (λ e. ne (sym e))) is) ∙ signed_more side.back (excess_of cells target) a;
    kept = λ w p q. ap (signed side.back) (kept' w q ∙ kept w p);
    inner = λ w. inner' w ∙ inner w;
    potential = λ w. ap (signed side.back) (potential' w ∙ potential w);
  }

-- numbers fit
pub few_in : (cells : List Cell) (flows : List Flows) (costs : List Costs) (side : Side) (v : ℕ) → Sound cells flows costs side → v < length cells → inner_of cells v ≡ true → nat_abs (excess_in cells side v) < 2 ^ 62
few_in cells flows costs side v w l i = omega (arith, w.room v 0 i (omega arith), excess_left (length cells) (inner_of cells) (excess_in cells side) v l i)

pub few_of : (cells : List Cell) (flows : List Flows) (costs : List Costs) (side : Side) (v : ℕ) → Sound cells flows costs side → v < length cells → inner_of cells v ≡ true → nat_abs (excess_of cells v) < 2 ^ 62
unfolding excess_in
few_of cells flows costs side v w l i = let f : nat_abs (excess_in cells side v) < 2 ^ 62 = few_in cells flows costs side v w l i in omega (arith, f, abs_signed side.back (excess_of cells v))

-- what flows where something is sent leaves room for it
pub roomy : (cells : List Cell) (flows0 flows : List Flows) (costs : List Costs) (side : Side) (source u d : ℕ) (a : ℤ) → Sound cells flows0 costs side → source < length cells → inner_of cells source ≡ true → pos 0 <ℤ a →
    a ≤ℤ excess_in cells side source → inner_of cells u ≡ true → d < 4 → flow_in flows side u d ≡ flow_in flows0 side u d → nat_abs (flow_of flows side.stride u d) + nat_abs a ≤ 2 ^ 62
unfolding flow_in
roomy cells flows0 flows costs side source u d a w l i some enough j k e =
    let least : nat_abs a ≤ nat_abs (excess_in cells side source) = omega (arith, ints, some, enough) in
    omega (arith, w.room u d j k, excess_left (length cells) (inner_of cells) (excess_in cells side) source l i, least, ap nat_abs e, abs_signed side.back (flow_of flows side.stride u d))
