-- What a search changes, and what comes later.
use Rattle.std.proofs.Common.{◌≡◌, ℕ, ◌+◌, ◌-◌, ◌^◌, ◌<◌, ◌≤◌, Bool, true, false, cond, List, length, ℤ, pos, ◌≤ℤ◌, ◌<ℤ◌, nat_abs, sym, ap, ap₂, ◌∙◌, subst, refl, inl, inr, arith}
use Rattle.std.proofs.lemmas.Int.{ints}
use Rattle.std.proofs.lemmas.Bool.{both_ways}
use Rattle.sums.proofs.Sum.{sum_ext}
use Rattle.net_cells.specs.Net.{Feasible}
use Rattle.net_cells.specs.Search.{IsEnd}
use Rattle.net_cells.specs.Lists.{view, signed, inner_of, excess_of, excess_in, flow_of, flow_in}
use Rattle.net_cells.specs.Fenced.{Fenced}
use Rattle.net_cells.specs.Sound.{Sound, Shrunk, Later, left_in}
use Rattle.net_cells.specs.declared.cell.Cell.{Cell}
use Rattle.net_cells.specs.declared.cell.Costs.{Costs}
use Rattle.net_cells.specs.declared.cell.Flows.{Flows}
use Rattle.net_cells.specs.declared.side.Side.{Side}
use Rattle.net_cells_theory.proofs.Fences.{abs_signed}
use Rattle.net_cells_search.specs.Room.{Kept}
use Rattle.net_cells_solve.proofs.Sending.{same_fence, same_ready}

pub kept_in : (cells cells' : List Cell) (side : Side) (v : ℕ) → Kept cells cells' → excess_in cells' side v ≡ excess_in cells side v
unfolding excess_in
kept_in cells cells' side v k = ap (signed side.back) (k.excess v)

shrunk_same : (x y : ℤ) → y ≡ x → Shrunk x y
shrunk_same x y e = record { above = λ h. omega (arith, ints); not_above = λ h. omega (arith, ints); less = omega (arith, ap nat_abs e) }

module _ (cells cells' : List Cell) (flows : List Flows) (costs : List Costs) (side : Side) (n : length cells' ≡ length cells) (k : Kept cells cells') where
  pub kept_left : left_in cells' side ≡ left_in cells side
  kept_left =
      rw n (sum_ext (length cells) (λ v. cond (inner_of cells' v) (nat_abs (excess_in cells' side v)) 0) (λ v. cond (inner_of cells v) (nat_abs (excess_in cells side v)) 0)
      (λ v _. ap₂ (λ (b : Bool) (z : ℤ). cond b (nat_abs z) 0) (k.inner v) (kept_in cells cells' side v k)))

  pub kept_fence : Fenced cells costs side → Fenced cells' costs side
  kept_fence f = same_fence cells cells' costs costs side n refl k.inner (λ u d _ _. refl) (λ u d _ _. refl) f

  pub kept_sound : Feasible (view cells' costs side) → Sound cells flows costs side → Sound cells' flows costs side
  kept_sound f w = record {
    lengths = w.lengths ∙ sym n;
    feasible = f;
    ready = same_ready cells cells' costs side (flow_in flows side) k.inner w.ready;
    room = λ u d i l. omega (arith, kept_left, w.room u d (sym (k.inner u) ∙ i) l);
  }

  pub kept_later : Later cells cells' flows flows costs costs side
  kept_later = record {
    inner = k.inner;
    price = λ u d _ _. refl;
    supply = λ u _. omega (arith, ints, kept_in cells cells' side u k);
    right = λ u _ _. refl;
    up = λ u _ _. refl;
    shrunk = λ u _. shrunk_same (excess_in cells side u) (excess_in cells' side u) (kept_in cells cells' side u k);
    few = λ u d _ _. omega (arith, kept_left);
  }

pub later_none : (cells : List Cell) (flows : List Flows) (costs : List Costs) (side : Side) → Later cells cells flows flows costs costs side
later_none cells flows costs side = record {
  inner = λ u. refl;
  price = λ u d _ _. refl;
  supply = λ u _. refl;
  right = λ u _ _. refl;
  up = λ u _ _. refl;
  shrunk = λ u _. shrunk_same (excess_in cells side u) (excess_in cells side u) refl;
  few = λ u d _ _. omega arith;
}

pub later_more : (cells cells' cells'' : List Cell) (flows flows' flows'' : List Flows) (costs costs' costs'' : List Costs) (side : Side) → Later cells cells' flows flows' costs costs' side →
    Later cells' cells'' flows' flows'' costs' costs'' side → Later cells cells'' flows flows'' costs costs'' side
later_more cells cells' cells'' flows flows' flows'' costs costs' costs'' side a b = record {
  inner = λ u. b.inner u ∙ a.inner u;
  price = λ u d i l. b.price u d (a.inner u ∙ i) l ∙ a.price u d i l;
  supply = λ u i. b.supply u (a.inner u ∙ i) ∙ a.supply u i;
  right = λ u i j. b.right u (a.inner u ∙ i) (a.inner (u + 1) ∙ j) ∙ a.right u i j;
  up = λ u i j. b.up u (a.inner u ∙ i) (a.inner (u - side.stride) ∙ j) ∙ a.up u i j;
  shrunk = λ u i. further (excess_in cells side u) (excess_in cells' side u) (excess_in cells'' side u) (a.shrunk u i) (b.shrunk u (a.inner u ∙ i));
  few = λ u d i l. omega (arith, a.few u d i l, b.few u d (a.inner u ∙ i) l);
}
  where
    further : (x y z : ℤ) → Shrunk x y → Shrunk y z → Shrunk x z
    further x y z p q = record { above = λ h. q.above (p.above h); not_above = λ h. q.not_above (p.not_above h); less = omega (arith, p.less, q.less) }

-- what flows fits, as it is written
pub small_flow : (cells : List Cell) (flows : List Flows) (costs : List Costs) (side : Side) (u d : ℕ) → Sound cells flows costs side → inner_of cells u ≡ true → d < 4 → nat_abs (flow_of flows side.stride u d) ≤ 2 ^ 62
unfolding flow_in
small_flow cells flows costs side u d w i l = omega (arith, w.room u d i l, abs_signed side.back (flow_of flows side.stride u d))

pub small_flow_in : (cells : List Cell) (flows : List Flows) (costs : List Costs) (side : Side) (u d : ℕ) → Sound cells flows costs side → inner_of cells u ≡ true → d < 4 → nat_abs (flow_in flows side u d) ≤ 2 ^ 62
small_flow_in cells flows costs side u d w i l = omega (arith, w.room u d i l)

pub lacking : (cells : List Cell) (costs : List Costs) (side : Side) (t : ℕ) → IsEnd (view cells costs side) t → inner_of cells t ≡ true → excess_in cells side t <ℤ pos 0
lacking cells costs side t (inl o) i = absurd (both_ways (inner_of cells t) o i)
lacking cells costs side t (inr e) i = e
