-- What is added to a list in rows.
use Rattle.std.proofs.Common.{◌≡◌, ℕ, ◌+◌, ◌*◌, ◌^◌, ◌<◌, ◌≤◌, List, length, get_or, set, ℤ, pos, ◌+ℤ◌, nat_abs, refl, sym, ap, ◌∙◌, subst, inl, inr, get_or-set_same, get_or-set_other, arith}
use Rattle.std.proofs.lemmas.Bool.{cases_eq}
use Rattle.phase_field.specs.Field.{turns_in}
use Rattle.squares_solve.specs.Flows.{Added}
use Rattle.squares_build.proofs.Laying.{apart_below}

-- the rows before row y, and the first x of row y, have it, and what comes then is as it was
pub record Adding (n columns : ℕ) (f : ℕ → ℕ → ℤ) (old : List ℤ) (x y : ℕ) (new : List ℤ) : Type 0 where
  pub rows : (i j : ℕ) → i < columns → j < y → get_or new (j * n + i) (pos 0) ≡ get_or old (j * n + i) (pos 0) +ℤ f i j
  pub row : (i : ℕ) → i < x → get_or new (y * n + i) (pos 0) ≡ get_or old (y * n + i) (pos 0) +ℤ f i y
  pub rest : (k : ℕ) → y * n + x ≤ k → get_or new k (pos 0) ≡ get_or old k (pos 0)
  pub few : (k : ℕ) → nat_abs (get_or new k (pos 0)) ≤ 2 ^ 50

pub adding_none : (n columns : ℕ) (f : ℕ → ℕ → ℤ) (old : List ℤ) → ((k : ℕ) → nat_abs (get_or old k (pos 0)) ≤ 2 ^ 32) → Adding n columns f old 0 0 old
adding_none n columns f old s = record {
  rows = λ i j k l. absurd (omega arith);
  row = λ i k. absurd (omega arith);
  rest = λ k l. refl;
  few = λ k. omega (arith, s k);
}

pub adding_row : (n columns : ℕ) (f : ℕ → ℕ → ℤ) (old : List ℤ) (x y : ℕ) (new : List ℤ) → x ≡ columns → columns ≤ n → Adding n columns f old x y new → Adding n columns f old 0 (y + 1) new
adding_row n columns f old x y new e l a = record { rows = λ i j k m. at i j k m; row = λ i k. absurd (omega arith); rest = λ k m. a.rest k (omega (arith, m)); few = a.few }
  where
    at : (i j : ℕ) → i < columns → j < y + 1 → get_or new (j * n + i) (pos 0) ≡ get_or old (j * n + i) (pos 0) +ℤ f i j
    at i j k m = elim (cases_eq j y) [
      | inl p ↦ subst (λ (t : ℕ). get_or new (t * n + i) (pos 0) ≡ get_or old (t * n + i) (pos 0) +ℤ f i t) (sym p) (a.row i (omega arith))
      | inr p ↦ a.rows i j k (omega (arith, p))
    ]

pub adding_more : (n columns : ℕ) (f : ℕ → ℕ → ℤ) (old : List ℤ) (x y : ℕ) (new : List ℤ) (v : ℤ) → x < columns → columns ≤ n → y * n + x < length new →
    v ≡ get_or new (y * n + x) (pos 0) +ℤ f x y → nat_abs v ≤ 2 ^ 50 → Adding n columns f old x y new → Adding n columns f old (x + 1) y (set new (y * n + x) v)
adding_more n columns f old x y new v k l b e s a = record {
  rows = λ i j p q. get_or-set_other new (y * n + x) (j * n + i) v (pos 0) (apart_below n i j x y (omega arith) q) ∙ a.rows i j p q;
  row = λ i p. at i p;
  rest = λ i p. get_or-set_other new (y * n + x) i v (pos 0) (λ r. omega (arith, r)) ∙ a.rest i (omega arith);
  few = λ i. small i;
}
  where
    at : (i : ℕ) → i < x + 1 → get_or (set new (y * n + x) v) (y * n + i) (pos 0) ≡ get_or old (y * n + i) (pos 0) +ℤ f i y
    at i p = elim (cases_eq i x) [
      | inl q ↦ subst (λ (t : ℕ). get_or (set new (y * n + x) v) (y * n + t) (pos 0) ≡ get_or old (y * n + t) (pos 0) +ℤ f t y) (sym q)
          (get_or-set_same new (y * n + x) v (pos 0) b ∙ (e ∙ ap (λ (z : ℤ). z +ℤ f x y) (a.rest (y * n + x) (omega arith))))
      | inr q ↦ get_or-set_other new (y * n + x) (y * n + i) v (pos 0) (λ r. q (omega (arith, r))) ∙ a.row i (omega (arith, q))
    ]

    small : (i : ℕ) → nat_abs (get_or (set new (y * n + x) v) i (pos 0)) ≤ 2 ^ 50
    small i = elim (cases_eq i (y * n + x)) [
      | inl q ↦ subst (λ (t : ℕ). nat_abs (get_or (set new (y * n + x) v) t (pos 0)) ≤ 2 ^ 50) (sym q) (subst (λ (z : ℤ). nat_abs z ≤ 2 ^ 50) (sym (get_or-set_same new (y * n + x) v (pos 0) b)) s)
      | inr q ↦ subst (λ (z : ℤ). nat_abs z ≤ 2 ^ 50) (sym (get_or-set_other new (y * n + x) i v (pos 0) q)) (a.few i)
    ]

pub adding_all : (n columns rows : ℕ) (f : ℕ → ℕ → ℤ) (old new : List ℤ) (y : ℕ) → y ≡ rows → Adding n columns f old 0 y new → Added n columns rows f old new
unfolding turns_in
adding_all n columns rows f old new y e a = record { is = λ i j k l. a.rows i j k (omega arith); few = a.few }
