-- The cell at (x, y), of a square or outside.
use Rattle.std.proofs.Common.{◌≡◌, ℕ, zero, suc, ◌+◌, ◌*◌, ◌-◌, ◌<◌, ◌≤◌, ◌≢◌, List, length, get_or, set, true, ℤ, pos, ◌+ℤ◌, ◌-ℤ◌, neg_ℤ, sym, ◌∙◌, subst, inl, inr, mul-le-mul_left, get_or-set_same, get_or-set_other, arith}
use Rattle.std.proofs.lemmas.Int.{ints}
use Rattle.std.proofs.lemmas.Bool.{cond-true, cond-false, cases_eq}
use Rattle.phase_cost.specs.Steps.{Steps, residue, NoResidues}
use Rattle.net_cells.specs.Lists.{no_cell}
use Rattle.squares_cells.specs.Squares.{corner, Corner}
use Rattle.squares_cells.proofs.Cells.{corner_yes, corner_no}
use Rattle.squares_build.specs.Laid.{Laid}
use Rattle.squares_build.specs.Cells.{excess_at, cell_for, RowComesBack}

pub cell_in : (s : Steps) (x y : ℕ) → Corner s.wide s.high x y → cell_for s x y ≡ record { excess = excess_at s x y; potential = pos 0; inner = true }
unfolding cell_for
cell_in s x y c = cond-true (corner s.wide s.high x y) _ no_cell (corner_yes s.wide s.high x y c)

pub cell_out : (s : Steps) (x y : ℕ) → (Corner s.wide s.high x y → ⊥) → cell_for s x y ≡ no_cell
unfolding cell_for
cell_out s x y n = cond-false (corner s.wide s.high x y) _ no_cell (corner_no s.wide s.high x y n)

-- what a square has in excess is its residue, taken away
pub excess_is : (s : Steps) (x y : ℕ) → excess_at s (suc x) (suc y) ≡ neg_ℤ (residue s x y)
unfolding residue
excess_is s x y = moved (suc x - 1) (suc y - 1) (omega arith) (omega arith)
  where
    moved : (p q : ℕ) → p ≡ x → q ≡ y →
        (s.to_below p q +ℤ s.to_right p (suc y)) -ℤ (s.to_right p q +ℤ s.to_below (suc x) q) ≡ neg_ℤ ((s.to_right x y +ℤ s.to_below (suc x) y) -ℤ (s.to_below x y +ℤ s.to_right x (suc y)))
    moved p q e f = rw e (rw f (omega (arith, ints)))

pub none_back : (s : Steps) (y : ℕ) → ((j : ℕ) → 0 < j → j < y → RowComesBack s j) → y ≡ s.high → NoResidues s
none_back s y r e i j k l =
    let z = r (suc j) (omega arith) (omega arith) (suc i) (omega arith) k in
    omega (arith, ints, excess_is s i j, z)

pub back_row : (s : Steps) (y : ℕ) → 0 < y → y < s.high → NoResidues s → RowComesBack s y
back_row s zero a b n x k l = absurd (omega arith)
back_row s (suc y) a b n zero k l = absurd (omega arith)
back_row s (suc y) a b n (suc x) k l = omega (arith, ints, excess_is s x y, n x y l b)

pub laid_none : {A : Type 0} (n : ℕ) (wanted : ℕ → ℕ → A → Type 0) (default : A) (all : List A) → Laid n wanted default 0 0 all
laid_none n wanted default all = record { rows = λ i j k l. absurd (omega arith); row = λ i k. absurd (omega arith) }

-- a row is done
pub laid_row : {A : Type 0} (n : ℕ) (wanted : ℕ → ℕ → A → Type 0) (default : A) (x y : ℕ) (all : List A) → x ≡ n → Laid n wanted default x y all → Laid n wanted default 0 (y + 1) all
laid_row n wanted default x y all e l = record { rows = λ i j k m. at i j k m; row = λ i k. absurd (omega arith) }
  where
    at : (i j : ℕ) → i < n → j < y + 1 → wanted i j (get_or all (j * n + i) default)
    at i j k m = elim (cases_eq j y) [ inl p ↦ subst (λ (t : ℕ). wanted i t (get_or all (t * n + i) default)) (sym p) (l.row i (omega arith)) | inr p ↦ l.rows i j k (omega (arith, p)) ]

pub apart_below : (n i j x y : ℕ) → i < n → j < y → (j * n + i ≢ y * n + x)
apart_below n i j x y k m e =
    let a : n * suc j ≤ n * y = mul-le-mul_left n m in
    absurd (omega (arith, e))

-- one more is written
pub laid_more : {A : Type 0} (n : ℕ) (wanted : ℕ → ℕ → A → Type 0) (default : A) (x y : ℕ) (all : List A) (v : A) → x < n → y * n + x < length all → wanted x y v →
    Laid n wanted default x y all → Laid n wanted default (x + 1) y (set all (y * n + x) v)
laid_more n wanted default x y all v k b w l = record {
  rows = λ i j p q. subst (wanted i j) (sym (get_or-set_other all (y * n + x) (j * n + i) v default (apart_below n i j x y p q))) (l.rows i j p q);
  row = λ i p. at i p;
}
  where
    at : (i : ℕ) → i < x + 1 → wanted i y (get_or (set all (y * n + x) v) (y * n + i) default)
    at i p = elim (cases_eq i x) [
      | inl q ↦ subst (λ (t : ℕ). wanted t y (get_or (set all (y * n + x) v) (y * n + t) default)) (sym q) (subst (wanted x y) (sym (get_or-set_same all (y * n + x) v default b)) w)
      | inr q ↦ subst (wanted i y) (sym (get_or-set_other all (y * n + x) (y * n + i) v default (λ r. q (omega (arith, r))))) (l.row i (omega (arith, q)))
    ]

-- one more is written, by whatever
pub laid_put : {A : Type 0} (n : ℕ) (wanted : ℕ → ℕ → A → Type 0) (default : A) (x y place : ℕ) (old new : List A) → place ≡ y * n + x → wanted x y (get_or new place default) →
    ((k : ℕ) → (k ≢ place) → get_or new k default ≡ get_or old k default) → x < n → Laid n wanted default x y old → Laid n wanted default (x + 1) y new
laid_put n wanted default x y place old new e here kept k l = record {
  rows = λ i j p q. subst (wanted i j) (sym (kept (j * n + i) (λ r. apart_below n i j x y p q (r ∙ e)))) (l.rows i j p q);
  row = λ i p. at i p;
}
  where
    at : (i : ℕ) → i < x + 1 → wanted i y (get_or new (y * n + i) default)
    at i p = elim (cases_eq i x) [
      | inl q ↦ subst (λ (t : ℕ). wanted t y (get_or new (y * n + t) default)) (sym q) (subst (λ (v : ℕ). wanted x y (get_or new v default)) e here)
      | inr q ↦ subst (wanted i y) (sym (kept (y * n + i) (λ r. q (omega (arith, r, e))))) (l.row i (omega (arith, q)))
    ]
