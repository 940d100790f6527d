-- What flows out of a square, and what flows across its steps.
use Rattle.std.proofs.Common.{◌≡◌, ℕ, zero, suc, pred, ◌+◌, ◌*◌, ◌-◌, true, List, neg_ℤ, ap, sym, ◌∙◌, arith}
use Rattle.net_cells.specs.Lists.{flow_of, right_of, up_of}
use Rattle.net_cells.specs.declared.cell.Flows.{Flows}
use Rattle.phase_cost.specs.Steps.{Steps}
use Rattle.squares_cells.specs.Squares.{cell, column, row, is_square, out_by}
use Rattle.squares_cells.specs.Theorems.{FlowsAcross}
use Rattle.squares_cells.proofs.Cells.{own_corner, own_cell}

module _ (s : Steps) (flows : List Flows) (u : ℕ) (i : is_square s u ≡ true) where
  x : ℕ
  x = column s u

  y : ℕ
  y = row s u

  is_x : suc (pred x) ≡ x
  unfolding x
  is_x = omega (arith, (own_corner s u i).x_some)

  is_y : suc (pred y) ≡ y
  unfolding y
  is_y = omega (arith, (own_corner s u i).y_some)

  is_u : y * suc s.wide + x ≡ u
  unfolding x y
  is_u = own_cell s u

  right : right_of flows u ≡ right_of flows (cell s x (suc (pred y)))
  right = ap (right_of flows) (sym is_u ∙ ap (λ (j : ℕ). cell s x j) (sym is_y))

  left : right_of flows (u - 1) ≡ right_of flows (cell s (pred x) (suc (pred y)))
  left = ap (right_of flows) (ap (λ (v : ℕ). v - 1) (sym is_u) ∙ (before ∙ ap (λ (j : ℕ). cell s (pred x) j) (sym is_y)))
    where
      before : (y * suc s.wide + x) - 1 ≡ y * suc s.wide + pred x
      before = omega (arith, is_x)

  up : up_of flows u ≡ up_of flows (cell s (suc (pred x)) (suc (pred y)))
  up = ap (up_of flows) (sym is_u ∙ (ap (λ (j : ℕ). cell s x j) (sym is_y) ∙ ap (λ (k : ℕ). cell s k (suc (pred y))) (sym is_x)))

  down : up_of flows (u + suc s.wide) ≡ up_of flows (cell s (suc (pred x)) (suc y))
  down = ap (up_of flows) (ap (λ (v : ℕ). v + suc s.wide) (sym is_u) ∙ (after ∙ ap (λ (k : ℕ). cell s k (suc y)) (sym is_x)))
    where
      after : (y * suc s.wide + x) + suc s.wide ≡ suc y * suc s.wide + x
      after = omega arith

pub flows_across : FlowsAcross
unfolding flow_of out_by x y
flows_across s flows u zero i l = right s flows u i
flows_across s flows u (suc zero) i l = ap neg_ℤ (left s flows u i)
flows_across s flows u (suc (suc zero)) i l = up s flows u i
flows_across s flows u (suc (suc (suc zero))) i l = ap neg_ℤ (down s flows u i)
flows_across s flows u (suc (suc (suc (suc d)))) i l = absurd (omega arith)
