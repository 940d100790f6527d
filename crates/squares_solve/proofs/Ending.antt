-- A flow that has settled, by lists.
use Rattle.std.proofs.Common.{◌≡◌, ℕ, zero, suc, pred, ◌+◌, ◌*◌, ◌-◌, ◌^◌, ◌<◌, ◌≤◌, true, false, List, ℤ, pos, ◌+ℤ◌, neg_ℤ, nat_abs, sym, refl, ap, ap₂, ◌∙◌, subst, ⊎_elim, inl, inr, arith}
use Rattle.std.proofs.lemmas.Int.{ints}
use Rattle.std.proofs.lemmas.Bool.{cases_lt}
use Rattle.phase_cost.specs.Steps.{Steps}
use Rattle.net_cells.specs.Net.{Residual, Feasible, Ready, out}
use Rattle.net_cells.specs.Lists.{inner_of, excess_in, cost_in, flow_in, flow_of, view}
use Rattle.net_cells.specs.Sound.{supply_in}
use Rattle.net_cells.specs.declared.cell.Cell.{Cell}
use Rattle.net_cells.specs.declared.cell.Costs.{Costs}
use Rattle.net_cells.specs.declared.cell.Flows.{Flows}
use Rattle.squares_cells.specs.Squares.{stride, cell, column, row, Corner, is_square, supply, price_by, Across, out_at, out_by, across, flow_cost, AreSquares, Settled}
use Rattle.squares_cells.proofs.Cells.{column_of, row_of, square_at}
use Rattle.squares_cells.proofs.Flows.{flows_across}
use Rattle.squares_cells.proofs.Least.{settled_is_least}
use Rattle.squares_solve.specs.Flows.{Within}
use Rattle.squares_solve.specs.Solved.{Solved, Ended, EndedBy}
use Rattle.squares_solve.proofs.Beginning.{ahead}

flow_is : (s : Steps) (flows : List Flows) (u d : ℕ) → is_square s u ≡ true → d < 4 → flow_in flows (ahead s) u d ≡ out_by s (across s flows) u d
unfolding flow_in
flow_is s flows u d i l = flows_across s flows u d i l

module _ (s : Steps) (cells : List Cell) (flows : List Flows) (costs : List Costs) (e : Ended s cells flows costs) where
  settled : Settled s (across s flows) (view cells costs (ahead s)) (flow_in flows (ahead s))
  settled = record {
    squares = record { inner = e.inner; head = λ u d. refl; price = e.price };
    feasible = e.feasible;
    ready = e.ready;
    across = flow_is s flows;
    meets = λ u i. meets (excess_in cells (ahead s) u) (out (flow_in flows (ahead s)) u) (supply s u) (e.supply u i) (e.none u i);
    one_row = λ h x. absurd (omega (arith, h, e.high));
    one_column = λ h y. absurd (omega (arith, h, e.wide));
  }
    where
      meets : (x o z : ℤ) → x +ℤ o ≡ z → x ≡ pos 0 → o ≡ z
      meets x o z p q = omega (arith, ints)

  small_at : (x y d : ℕ) → Corner s.wide s.high x y → d < 4 → nat_abs (out_at (across s flows) d x y) ≤ suc s.high * stride s
  small_at x y d c l =
      let i = square_at s x y c in
      let k : out_by s (across s flows) (cell s x y) d ≡ out_at (across s flows) d x y =
      unfold out_by in ap₂ (out_at (across s flows) d) (column_of s x y (omega (arith, c.x_below))) (row_of s x y (omega (arith, c.x_below))) in
      subst (λ (z : ℤ). nat_abs z ≤ suc s.high * stride s) (flow_is s flows (cell s x y) d i l ∙ k) (e.small (cell s x y) d i l)

  turned : (n : ℕ) (z : ℤ) → nat_abs (neg_ℤ z) ≤ n → nat_abs z ≤ n
  turned n z l = omega (arith, ints)

  within : Within (suc s.high * stride s) s (across s flows)
  within = record { right = right; below = below }
    where
      right : (x y : ℕ) → suc x < s.wide → y < s.high → nat_abs ((across s flows).right x y) ≤ suc s.high * stride s
      right x y k l = ⊎_elim
          (λ m. small_at (suc x) (suc y) 2 (record { x_some = omega arith; x_below = k; y_some = omega arith; y_below = m }) (omega arith))
          (λ m. turned (suc s.high * stride s) ((across s flows).right x y) (small_at (suc x) y 3 (record { x_some = omega arith; x_below = k; y_some = omega (arith, e.high); y_below = l }) (omega arith)))
          (cases_lt (suc y) s.high)

      below : (x y : ℕ) → x < s.wide → suc y < s.high → nat_abs ((across s flows).below x y) ≤ suc s.high * stride s
      below x y k l = ⊎_elim
          (λ m. turned (suc s.high * stride s) ((across s flows).below x y) (small_at (suc x) (suc y) 1 (record { x_some = omega arith; x_below = m; y_some = omega arith; y_below = l }) (omega arith)))
          (λ m. small_at x (suc y) 0 (record { x_some = omega (arith, e.wide); x_below = k; y_some = omega arith; y_below = l }) (omega arith))
          (cases_lt (suc x) s.wide)

pub few_across : (s : Steps) (flows : List Flows) → EndedBy s flows → Within (2 ^ 19) s (across s flows)
few_across s flows e =
    let w = within s e.cells flows e.costs e.ended in
    record { right = λ x y p q. omega (arith, w.right x y p q, e.ended.size); below = λ x y p q. omega (arith, w.below x y p q, e.ended.size) }

pub solved : (s : Steps) (flows : List Flows) (cost : ℕ) → EndedBy s flows → cost ≡ flow_cost s (across s flows) → Solved s flows cost
solved s flows cost e k =
    let c = settled_is_least s (across s flows) (view e.cells e.costs (ahead s)) (flow_in flows (ahead s)) (settled s e.cells flows e.costs e.ended) in
    record { cost_is = k ∙ sym c.cost; least = c.least; within = few_across s flows e; few = within s e.cells flows e.costs e.ended }
