-- Cells of squares as the solver takes them.
use Rattle.std.proofs.Common.{◌≡◌, ℕ, zero, suc, pred, ◌+◌, ◌*◌, ◌-◌, ◌^◌, ◌<◌, ◌≤◌, Bool, true, false, if◌then◌else◌, List, length, ℤ, pos, ◌+ℤ◌, neg_ℤ, nat_abs, sym, refl, ap, ap₂, ◌∙◌, subst, inl, inr, arith}
use Rattle.std.proofs.lemmas.Int.{ints}
use Rattle.std.proofs.lemmas.Bool.{cases_Bool, cases_lt, cond-true, cond-false}
use Rattle.std.proofs.lemmas.Nat.{mul-add-lt, mul-le}
use Rattle.sums.specs.Sum.{sum_to}
use Rattle.sums.proofs.Sum.{sum_ext}
use Rattle.phase_cost.specs.Steps.{Steps, residue, NoResidues}
use Rattle.net_cells.specs.Net.{Residual, Feasible, Ready, back, unit, price, of_four}
use Rattle.net_cells.specs.Moves.{left}
use Rattle.net_cells.specs.Lists.{inner_of, excess_of, excess_in, cost_in, flow_in, flow_of, right_of, up_of, view, head}
use Rattle.net_cells.specs.Fenced.{Fenced}
use Rattle.net_cells.specs.Sound.{Sound, Later, left_in, supply_in}
use Rattle.net_cells.specs.declared.cell.Cell.{Cell}
use Rattle.net_cells.specs.declared.cell.Costs.{Costs}
use Rattle.net_cells.specs.declared.cell.Flows.{Flows}
use Rattle.net_cells_solve.specs.Listing.{ahead as side}
use Rattle.squares_cells.specs.Squares.{stride, cells, cell, column, row, is_square, supply, price_at, price_by, Unsolved, IsSound}
use Rattle.squares_cells.proofs.Cells.{own_cell, own_corner}
use Rattle.squares_cells.proofs.Start.{here, there, unsolved_is_sound}
use Rattle.squares_cells.proofs.Supply.{supplies_few}
use Rattle.squares_build.specs.Cells.{CellsFor, CostsFor}
use Rattle.squares_solve.specs.Solved.{NoFlow, EndedBy}
use Rattle.squares_solve.proofs.Beginning.{ahead, unsolved}

module _ (s : Steps) (all : List Cell) (costs : List Costs) (flows : List Flows) (laid : CellsFor s all) (long : length all ≡ cells s) (priced : CostsFor s costs) where
  network : Unsolved s (view all costs (ahead s))
  network = unsolved s all costs laid long priced

  square : (u : ℕ) → inner_of all u ≡ true → is_square s u ≡ true
  square u i = sym (network.inner u) ∙ i

  pub sound : IsSound s (view all costs (ahead s)) (λ u d. pos 0)
  sound = unsolved_is_sound s (view all costs (ahead s)) network

  price_few : ((x y : ℕ) → s.right x y ≤ 1000) → ((x y : ℕ) → s.below x y ≤ 1000) → (d x y : ℕ) → price_at s d x y ≤ 1000
  price_few p q zero x y = q x (pred y)
  price_few p q (suc zero) x y = q (pred x) (pred y)
  price_few p q (suc (suc zero)) x y = p (pred x) (pred y)
  price_few p q (suc (suc (suc d))) x y = p (pred x) y

  pub fenced : s.wide ≤ 512 → s.high ≤ 512 → length costs ≡ length all → ((x y : ℕ) → s.right x y ≤ 1000) → ((x y : ℕ) → s.below x y ≤ 1000) → Fenced all costs (ahead s)
  unfolding price_by
  fenced w h e p q = record {
    size = omega (arith, long, mul-le (suc s.high) (suc s.wide) 513 513 (omega arith) (omega arith));
    priced = e;
    stride = omega arith;
    low = λ u i. let c = own_corner s u (square u i) in omega (arith, own_cell s u, c.x_some, row_one u (row s u) c.y_some);
    high = λ u i. let c = own_corner s u (square u i) in omega (arith, long, own_cell s u, mul-add-lt (suc (row s u)) (stride s) (column s u) (suc s.high) (omega (arith, c.y_below)) (omega (arith, c.x_below)));
    cost = λ u d i l. of_price (cost_in costs (ahead s) u d) _ (here s (view all costs (ahead s)) network u d (square u i) l) (price_few p q d (column s u) (row s u));
    cost_back = λ u d i l. of_price (cost_in costs (ahead s) (head (stride s) u d) (back d)) _ (there s (view all costs (ahead s)) network u d (square u i) l) (price_few p q d (column s u) (row s u));
  }
    where
      of_price : (z : ℤ) (n : ℕ) → z ≡ pos n → n ≤ 1000 → nat_abs z ≤ 1000
      of_price z n e l = omega (arith, ints)

      row_one : (u r : ℕ) → 0 < r → stride s ≤ r * stride s
      row_one u (suc r) l = omega arith
      row_one u zero l = absurd (omega arith)

  module _ (none_right : (u : ℕ) → right_of flows u ≡ pos 0) (none_up : (u : ℕ) → up_of flows u ≡ pos 0) where
    pub no_flow : (u d : ℕ) → flow_in flows (ahead s) u d ≡ pos 0
    unfolding flow_in flow_of
    no_flow u zero = none_right u
    no_flow u (suc zero) = ap neg_ℤ (none_right (u - 1))
    no_flow u (suc (suc zero)) = none_up u
    no_flow u (suc (suc (suc d))) = ap neg_ℤ (none_up (u + stride s))

    pub ready : Ready (view all costs (ahead s)) (flow_in flows (ahead s))
    ready = record {
      here = λ u d i l. sound.ready.here u d i l ∙ ap (unit (price (view all costs (ahead s)) u d)) (sym (no_flow u d));
      there = λ u d i l. sound.ready.there u d i l ∙ ap (λ (z : ℤ). unit (price (view all costs (ahead s)) u d) (neg_ℤ z)) (sym (no_flow u d));
    }

    pub supply_first : (u : ℕ) → is_square s u ≡ true → supply_in all flows (ahead s) u ≡ supply s u
    supply_first u i = omega (arith, ints, network.excess u i, no_flow u 0, no_flow u 1, no_flow u 2, no_flow u 3)

  pub price_first : (u d : ℕ) → is_square s u ≡ true → d < 4 → nat_abs (cost_in costs (ahead s) u d) ≡ price_by s u d
  price_first u d i l = sound.squares.price u d i l

  pub few_left : ((x y : ℕ) → suc x < s.wide → suc y < s.high → nat_abs (residue s x y) ≤ 1) → left_in all (ahead s) ≤ cells s
  few_left r = omega (arith, same, supplies_few s 1 r)
    where
      member : (u : ℕ) → (if inner_of all u then nat_abs (excess_in all (ahead s) u) else 0) ≡ (if is_square s u then nat_abs (supply s u) else 0)
      member u = elim (cases_Bool (is_square s u)) [
        | inl e ↦ cond-true (inner_of all u) _ 0 (network.inner u ∙ e) ∙ (ap nat_abs (network.excess u e) ∙ sym (cond-true (is_square s u) _ 0 e))
        | inr e ↦ cond-false (inner_of all u) _ 0 (network.inner u ∙ e) ∙ sym (cond-false (is_square s u) _ 0 e)
      ]

      same : left_in all (ahead s) ≡ left (cells s) (is_square s) (supply s)
      same = sum_ext (length all) _ _ (λ u l. member u) ∙ ap (λ (n : ℕ). left n (is_square s) (supply s)) long

-- all that the solver asks for
pub taken : (s : Steps) (all : List Cell) (costs : List Costs) (flows : List Flows) (laid : CellsFor s all) (long : length all ≡ cells s) (priced : CostsFor s costs) → s.wide ≤ 512 → s.high ≤ 512 →
    length flows ≡ length all → NoFlow flows → ((x y : ℕ) → suc x < s.wide → suc y < s.high → nat_abs (residue s x y) ≤ 1) → Sound all flows costs (ahead s)
taken s all costs flows laid long priced w h e n r = record {
  lengths = e;
  feasible = (sound s all costs flows laid long priced).feasible;
  ready = ready s all costs flows laid long priced n.right n.up;
  room = λ u d i l. omega (arith, ints, no_flow s all costs flows laid long priced n.right n.up u d, few_left s all costs flows laid long priced r, mul-le (suc s.high) (suc s.wide) 513 513 (omega arith) (omega arith));
}

-- and what it leaves
pub ended : (s : Steps) (all new : List Cell) (costs costs' : List Costs) (flows flows' : List Flows) (laid : CellsFor s all) (long : length all ≡ cells s) (priced : CostsFor s costs) → s.wide ≤ 512 → s.high ≤ 512 → NoFlow flows →
    ((x y : ℕ) → suc x < s.wide → suc y < s.high → nat_abs (residue s x y) ≤ 1) → (NoResidues s → ⊥) → Sound new flows' costs' (ahead s) → Later all new flows flows' costs costs' (ahead s) →
    ((u : ℕ) → inner_of all u ≡ true → excess_of new u ≡ pos 0) → EndedBy s flows'
unfolding excess_in
ended s all new costs costs' flows flows' laid long priced w h n r some sound' later none = record {
  cells = new;
  costs = costs';
  ended = record {
    inner = λ u. later.inner u ∙ (network s all costs flows laid long priced).inner u;
    feasible = sound'.feasible;
    ready = sound'.ready;
    price = λ u d i l. later.price u d (inner u i) l ∙ price_first s all costs flows laid long priced u d i l;
    supply = λ u i. later.supply u (inner u i) ∙ supply_first s all costs flows laid long priced n.right n.up u i;
    none = λ u i. none u (inner u i);
    small = λ u d i l.
        omega (
          arith,
          ints,
          later.few u d (inner u i) l,
          no_flow s all costs flows laid long priced n.right n.up u d,
          few_left s all costs flows laid long priced r,
        );
    size = omega (arith, mul-le (suc s.high) (suc s.wide) 513 513 (omega arith) (omega arith));
    wide = elim (cases_lt 1 s.wide) [ inl l ↦ l | inr l ↦ absurd (some (λ x y k m. absurd (omega arith))) ];
    high = elim (cases_lt 1 s.high) [ inl l ↦ l | inr l ↦ absurd (some (λ x y k m. absurd (omega arith))) ];
  };
}
  where
    inner : (u : ℕ) → is_square s u ≡ true → inner_of all u ≡ true
    inner u i = (network s all costs flows laid long priced).inner u ∙ i

pub ended_at : (s : Steps) (n : ℕ) → n ≡ stride s → (all new : List Cell) (costs costs' : List Costs) (flows flows' : List Flows) (laid : CellsFor s all) (long : length all ≡ cells s) (priced : CostsFor s costs) → s.wide ≤ 512 → s.high ≤ 512 →
    NoFlow flows → ((x y : ℕ) → suc x < s.wide → suc y < s.high → nat_abs (residue s x y) ≤ 1) → (NoResidues s → ⊥) → Sound new flows' costs' (side n) → Later all new flows flows' costs costs' (side n) →
    ((u : ℕ) → inner_of all u ≡ true → excess_of new u ≡ pos 0) → EndedBy s flows'
ended_at s n e all new costs costs' flows flows' laid long priced w h none few some sound' later settled =
    ended s all new costs costs' flows flows' laid long priced w h none few some (subst (λ (m : ℕ). Sound new flows' costs' (side m)) e sound')
    (subst (λ (m : ℕ). Later all new flows flows' costs costs' (side m)) e later) settled
