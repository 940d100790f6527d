-- Cells of squares as they are laid out, before anything flows.
use Rattle.std.proofs.Common.{◌≡◌, ℕ, zero, suc, pred, ◌+◌, ◌*◌, ◌-◌, ◌/◌, ◌%◌, ◌<◌, ◌≤◌, ◌≢◌, Bool, true, false, List, length, get_or, ℤ, pos, ◌+ℤ◌, ◌-ℤ◌, neg_ℤ, sym, refl, ap, ap₂, ◌∙◌, subst, ⊎_elim, inl, inr, mul-le-mul_left, arith}
use Rattle.std.proofs.lemmas.Int.{ints}
use Rattle.std.proofs.lemmas.Bool.{cases_Bool, cases_lt}
use Rattle.std.proofs.lemmas.List.{get_or_past}
use Rattle.std.proofs.lemmas.Nat.{mul-add-lt}
use Rattle.phase_cost.specs.Steps.{Steps, residue}
use Rattle.net_cells.specs.Net.{Residual}
use Rattle.net_cells.specs.Lists.{inner_of, excess_of, potential_of, cost_of, excess_in, potential_in, cost_in, view, no_cell, no_costs}
use Rattle.net_cells.specs.declared.cell.Cell.{Cell}
use Rattle.net_cells.specs.declared.cell.Costs.{Costs}
use Rattle.net_cells.specs.declared.side.Side.{Side}
use Rattle.squares_cells.specs.Squares.{stride, cells, cell, column, row, corner, Corner, is_square, supply, Priced, Unsolved}
use Rattle.squares_cells.proofs.Cells.{corner_yes, corner_no, yes_corner, column_of, row_of, own_cell, own_corner}
use Rattle.squares_build.specs.Cells.{cell_for, CellsFor, CostsFor}
use Rattle.squares_build.proofs.Laying.{cell_in, cell_out, excess_is}

-- cells seen from where they stand
abbrev pub ahead : Steps → Side
ahead s = record { stride = stride s; back = false }

clash : {P : Type 0} → true ≡ false → P
clash e = absurd (cc)

module _ (s : Steps) (all : List Cell) (laid : CellsFor s all) (long : length all ≡ cells s) where
  -- what is true of cells as they are to be, and of those past the end, is true of all
  everywhere : (P : ℕ → Cell → Type 0) → ((x y : ℕ) → x ≤ s.wide → y ≤ s.high → P (cell s x y) (cell_for s x y)) → ((u : ℕ) → cells s ≤ u → P u no_cell) → (u : ℕ) → P u (get_or all u no_cell)
  everywhere P within past u = ⊎_elim inside outside (cases_lt u (cells s))
    where
      inside : u < cells s → P u (get_or all u no_cell)
      inside l =
          let k : column s u ≤ s.wide = omega arith in
          let m : row s u ≤ s.high = high l in
          subst (λ (v : ℕ). P v (get_or all v no_cell)) (own_cell s u) (subst (P (cell s (column s u) (row s u))) (sym (laid (column s u) (row s u) k m)) (within (column s u) (row s u) k m))
        where
          high : u < cells s → row s u ≤ s.high
          high l = ⊎_elim (λ p. absurd (omega (arith, own_cell s u, mul-le-mul_left (stride s) p, l))) (λ p. p) (cases_lt s.high (row s u))

      outside : cells s ≤ u → P u (get_or all u no_cell)
      outside l = subst (P u) (sym (get_or_past all u no_cell (omega (arith, long)))) (past u l)

  corner_out : (u : ℕ) → cells s ≤ u → Corner s.wide s.high (column s u) (row s u) → ⊥
  corner_out u l c = omega (arith, own_cell s u, mul-add-lt (row s u) (stride s) (column s u) s.high c.y_below (omega (arith, c.x_below)), l)

  inner_is : (u : ℕ) → inner_of all u ≡ is_square s u
  inner_is = everywhere (λ u c. c.inner ≡ is_square s u) (λ x y k l. at x y k) (λ u l. sym (corner_no s.wide s.high (column s u) (row s u) (corner_out u l)))
    where
      at : (x y : ℕ) → x ≤ s.wide → (cell_for s x y).inner ≡ is_square s (cell s x y)
      at x y k = ap₂ (λ (i j : ℕ). (cell_for s i j).inner) (sym (column_of s x y k)) (sym (row_of s x y k)) ∙ by (column s (cell s x y)) (row s (cell s x y))
        where
          by : (i j : ℕ) → (cell_for s i j).inner ≡ corner s.wide s.high i j
          by i j = elim (cases_Bool (corner s.wide s.high i j)) [
            | inl e ↦ ap (λ (c : Cell). c.inner) (cell_in s i j (yes_corner s.wide s.high i j e)) ∙ sym e
            | inr e ↦ ap (λ (c : Cell). c.inner) (cell_out s i j (λ c. clash (sym (corner_yes s.wide s.high i j c) ∙ e))) ∙ sym e
          ]

  flat_is : (u : ℕ) → potential_of all u ≡ pos 0
  flat_is = everywhere (λ u c. c.potential ≡ pos 0) (λ x y k l. by x y) (λ u l. refl)
    where
      by : (x y : ℕ) → (cell_for s x y).potential ≡ pos 0
      by x y = elim (cases_Bool (corner s.wide s.high x y)) [
        | inl e ↦ ap (λ (c : Cell). c.potential) (cell_in s x y (yes_corner s.wide s.high x y e))
        | inr e ↦ ap (λ (c : Cell). c.potential) (cell_out s x y (λ c. clash (sym (corner_yes s.wide s.high x y c) ∙ e)))
      ]

  -- cells outside have nothing in excess
  pub outside_is : (u : ℕ) → (excess_of all u ≢ pos 0) → inner_of all u ≡ true
  outside_is = everywhere (λ u c. (c.excess ≢ pos 0) → c.inner ≡ true) (λ x y k l. by x y) (λ u l n. absurd (n refl))
    where
      by : (x y : ℕ) → ((cell_for s x y).excess ≢ pos 0) → (cell_for s x y).inner ≡ true
      by x y n = elim (cases_Bool (corner s.wide s.high x y)) [
        | inl e ↦ ap (λ (c : Cell). c.inner) (cell_in s x y (yes_corner s.wide s.high x y e))
        | inr e ↦ absurd (n (ap (λ (c : Cell). c.excess) (cell_out s x y (λ c. clash (sym (corner_yes s.wide s.high x y c) ∙ e)))))
      ]

  excess_at_corner : (x y : ℕ) → Corner s.wide s.high x y → excess_of all (cell s x y) ≡ neg_ℤ (residue s (pred x) (pred y))
  excess_at_corner zero y c = absurd (omega (arith, c.x_some))
  excess_at_corner (suc x) zero c = absurd (omega (arith, c.y_some))
  excess_at_corner (suc x) (suc y) c =
      ap (λ (c : Cell). c.excess) (laid (suc x) (suc y) (omega (arith, c.x_below)) (omega (arith, c.y_below)) ∙ cell_in s (suc x) (suc y) c) ∙ excess_is s x y

  supply_is : (u : ℕ) → is_square s u ≡ true → excess_of all u ≡ supply s u
  unfolding supply
  supply_is u e = subst (λ (v : ℕ). excess_of all v ≡ neg_ℤ (residue s (pred (column s u)) (pred (row s u)))) (own_cell s u) (excess_at_corner (column s u) (row s u) (own_corner s u e))

module _ (s : Steps) (costs : List Costs) (laid : CostsFor s costs) where
  priced : Priced s (cost_of costs)
  priced = record {
    right = λ x y k l. (laid x (suc y) (omega arith) (omega arith)).right k (omega arith) l ∙ ap (λ (j : ℕ). pos (s.below x j)) (less y);
    left = λ x y k l. (laid (suc x) (suc y) (omega arith) (omega arith)).left (omega arith) (omega arith) l ∙ ap₂ (λ (i j : ℕ). pos (s.below i j)) (less x) (less y);
    up = λ x y k l. (laid (suc x) (suc y) (omega arith) (omega arith)).up (omega arith) k (omega arith) ∙ ap₂ (λ (i j : ℕ). pos (s.right i j)) (less x) (less y);
    down = λ x y k l. (laid (suc x) y (omega arith) (omega arith)).down (omega arith) k l ∙ ap (λ (i : ℕ). pos (s.right i y)) (less x);
  }
    where
      less : (n : ℕ) → suc n - 1 ≡ n
      less n = omega arith

pub unsolved : (s : Steps) (all : List Cell) (costs : List Costs) → CellsFor s all → length all ≡ cells s → CostsFor s costs → Unsolved s (view all costs (ahead s))
unfolding excess_in potential_in cost_in
unsolved s all costs c n p = record {
  inner = inner_is s all c n;
  head = λ u d. refl;
  priced = priced s costs p;
  flat = flat_is s all c n;
  excess = supply_is s all c n;
}
