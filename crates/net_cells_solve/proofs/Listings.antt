-- What the list says stays true, and where nothing is left.
use Rattle.std.proofs.Common.{◌≡◌, ℕ, zero, suc, negsuc, refl, ◌<◌, ◌≤◌, ◌≢◌, ◌⊎◌, List, length, true, ℤ, pos, neg_ℤ, ◌≤ℤ◌, nat_abs, slice_index, sym, ap, ◌∙◌, inl, inr, arith}
use Rattle.std.proofs.lemmas.Int.{ints}
use Rattle.net_cells.specs.Lists.{inner_of, excess_of, excess_in}
use Rattle.net_cells.specs.Sound.{Later, Shrunk}
use Rattle.net_cells.specs.declared.cell.Cell.{Cell}
use Rattle.net_cells.specs.declared.cell.Costs.{Costs}
use Rattle.net_cells.specs.declared.cell.Flows.{Flows}
use Rattle.net_cells_solve.specs.Listing.{Listing, ahead, behind}

cases_zero : (z : ℤ) → (z ≡ pos 0) ⊎ (z ≢ pos 0)
cases_zero (pos zero) = inl refl
cases_zero (pos (suc n)) = inr (λ e. absurd (omega (arith, ints, e)))
cases_zero (negsuc n) = inr (λ e. absurd (omega (arith, ints, e)))

module _ (cells cells' : List Cell) (flows flows' : List Flows) (costs costs' : List Costs) (s : ℕ) (l : Later cells cells' flows flows' costs costs' (ahead s)) where
  -- what is 0 stays 0
  pub stays_none : (u : ℕ) → inner_of cells u ≡ true → excess_of cells u ≡ pos 0 → excess_of cells' u ≡ pos 0
  unfolding excess_in
  stays_none u i e = let m : nat_abs (excess_of cells' u) ≤ nat_abs (excess_of cells u) = (l.shrunk u i).less in omega (arith, ints, ap nat_abs e)

  pub later_listing : (list : List ℕ) (count : ℕ) → length cells' ≡ length cells → Listing cells list count → Listing cells' list count
  later_listing list count n g = record {
    within = λ k h. omega (arith, g.within k h);
    inner = λ k h. l.inner (slice_index list k) ∙ g.inner k h;
    covers = λ u i ne. g.covers u (sym (l.inner u) ∙ i) (λ e. ne (stays_none u (sym (l.inner u) ∙ i) e));
  }

  pub all_none : (list : List ℕ) (count : ℕ) → Listing cells list count → ((k : ℕ) → k < count → excess_of cells' (slice_index list k) ≡ pos 0) → (u : ℕ) → inner_of cells u ≡ true → excess_of cells' u ≡ pos 0
  all_none list count g h u i = elim (cases_zero (excess_of cells u)) [
    | inl e ↦ stays_none u i e
    | inr ne ↦ (let c = g.covers u i ne in ap (excess_of cells') (sym c.1.1) ∙ h c.0 c.1.0)
  ]

-- none from either side
pub none_left : (cells mid cells' : List Cell) (flows flows' : List Flows) (costs costs' : List Costs) (s v : ℕ) → Later mid cells' flows flows' costs costs' (behind s) → inner_of mid v ≡ true → excess_in mid (ahead s) v ≤ℤ pos 0 →
    excess_in cells' (behind s) v ≤ℤ pos 0 → excess_of cells' v ≡ pos 0
unfolding excess_in
none_left cells mid cells' flows flows' costs costs' s v l i a b =
    let h : pos 0 ≤ℤ neg_ℤ (excess_of cells' v) = (l.shrunk v i).above (omega (arith, ints)) in
    omega (arith, ints, b)
