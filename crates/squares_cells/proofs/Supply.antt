-- How much all squares supply.
use Rattle.std.proofs.Common.{◌≡◌, ℕ, pred, ◌≤◌, true, if◌then◌else◌, nat_abs, subst, sym, inl, inr, arith}
use Rattle.std.proofs.lemmas.Int.{ints}
use Rattle.std.proofs.lemmas.Bool.{cases_Bool, cond-true, cond-false}
use Rattle.sums.proofs.Sum.{sum_at_most}
use Rattle.squares_cells.specs.Squares.{cells, column, row, is_square, supply}
use Rattle.squares_cells.specs.Theorems.{SuppliesFew}
use Rattle.squares_cells.proofs.Cells.{own_corner}

pub supplies_few : SuppliesFew
supplies_few s k h = sum_at_most (cells s) k _ (λ u l. each u)
  where
    small : (u : ℕ) → is_square s u ≡ true → nat_abs (supply s u) ≤ k
    small u e =
        unfold supply in
        let c = own_corner s u e in
        omega (arith, ints, h (pred (column s u)) (pred (row s u)) (omega (arith, c.x_some, c.x_below)) (omega (arith, c.y_some, c.y_below)))

    each : (u : ℕ) → (if is_square s u then nat_abs (supply s u) else 0) ≤ k
    each u = elim (cases_Bool (is_square s u)) [
      | inl e ↦ subst (λ (n : ℕ). n ≤ k) (sym (cond-true (is_square s u) (nat_abs (supply s u)) 0 e)) (small u e)
      | inr e ↦ subst (λ (n : ℕ). n ≤ k) (sym (cond-false (is_square s u) (nat_abs (supply s u)) 0 e)) (omega arith)
    ]
