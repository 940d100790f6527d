-- Cells as they are listed one by one.
use Rattle.std.proofs.Common.{◌≡◌, ℕ, ◌+◌, ◌<◌, ◌≤◌, ◌≢◌, ◌⊎◌, List, length, take, get_or, set, true, pos, sym, refl, ap, ◌∙◌, subst, inl, inr, get_or-set_same, get_or-set_other, get_or-take, arith, rules}
use Rattle.std.proofs.lemmas.Bool.{cases_eq, cases_lt}
use Rattle.std.proofs.lemmas.List.{get_or_past, length-take-le}
use Rattle.net_cells.specs.Lists.{inner_of, excess_of, no_cell}
use Rattle.net_cells.specs.declared.cell.Cell.{Cell}
use Rattle.net_cells_solve.specs.Listing.{Listing}

-- those below v
pub record ListedTo (cells : List Cell) (list : List ℕ) (count v : ℕ) : Type 0 where
  pub few : count ≤ v
  pub within : (k : ℕ) → k < count → get_or list k 0 < v
  pub inner : (k : ℕ) → k < count → inner_of cells (get_or list k 0) ≡ true
  pub all : (u : ℕ) → u < v → inner_of cells u ≡ true → (excess_of cells u ≢ pos 0) → (k : ℕ) × (k < count) × (get_or list k 0 ≡ u)

pub listed_none : (cells : List Cell) (list : List ℕ) → ListedTo cells list 0 0
listed_none cells list = record { few = omega arith; within = λ k l. absurd (omega arith); inner = λ k l. absurd (omega arith); all = λ u l. absurd (omega arith) }

pub listed_next : (cells : List Cell) (old new : List ℕ) (count count' v : ℕ) → ((u : ℕ) → (excess_of cells u ≢ pos 0) → inner_of cells u ≡ true) → get_or new count 0 ≡ v → ((k : ℕ) → k < count → get_or new k 0 ≡ get_or old k 0) →
    ((count' ≡ count + 1) × (excess_of cells v ≢ pos 0)) ⊎ ((count' ≡ count) × (excess_of cells v ≡ pos 0)) → ListedTo cells old count v → ListedTo cells new count' (v + 1)
listed_next cells old new count count' v outside last kept (inr n) l = record {
  few = omega (arith, n.0, l.few);
  within = λ k m. omega (arith, n.0, kept k (omega (arith, n.0)), l.within k (omega (arith, n.0)));
  inner = λ k m. ap (inner_of cells) (kept k (omega (arith, n.0))) ∙ l.inner k (omega (arith, n.0));
  all = all;
}
  where
    all : (u : ℕ) → u < v + 1 → inner_of cells u ≡ true → (excess_of cells u ≢ pos 0) → (k : ℕ) × (k < count') × (get_or new k 0 ≡ u)
    all u m i o = elim (cases_eq u v) [
      | inl e ↦ absurd (o (ap (excess_of cells) e ∙ n.1))
      | inr e ↦ let r = l.all u (omega (arith, e)) i o in (r.0, omega (arith, n.0, r.1), kept r.0 r.1 ∙ r.2)
    ]
listed_next cells old new count count' v outside last kept (inl n) l = record {
  few = omega (arith, n.0, l.few);
  within = within;
  inner = inner;
  all = all;
}
  where
    within : (k : ℕ) → k < count' → get_or new k 0 < v + 1
    within k m = elim (cases_eq k count) [
      | inl e ↦ omega (arith, ap (λ (j : ℕ). get_or new j 0) e, last)
      | inr e ↦ omega (arith, kept k (omega (arith, n.0, e)), l.within k (omega (arith, n.0, e)))
    ]

    inner : (k : ℕ) → k < count' → inner_of cells (get_or new k 0) ≡ true
    inner k m = elim (cases_eq k count) [
      | inl e ↦ ap (inner_of cells) (ap (λ (j : ℕ). get_or new j 0) e ∙ last) ∙ outside v n.1
      | inr e ↦ ap (inner_of cells) (kept k (omega (arith, n.0, e))) ∙ l.inner k (omega (arith, n.0, e))
    ]

    all : (u : ℕ) → u < v + 1 → inner_of cells u ≡ true → (excess_of cells u ≢ pos 0) → (k : ℕ) × (k < count') × (get_or new k 0 ≡ u)
    all u m i o = elim (cases_eq u v) [
      | inl e ↦ (count, omega (arith, n.0), last ∙ sym e)
      | inr e ↦ let r = l.all u (omega (arith, e)) i o in (r.0, omega (arith, n.0, r.1), kept r.0 r.1 ∙ r.2)
    ]

pub listed_all : (cells : List Cell) (list : List ℕ) (count v : ℕ) → v ≡ length cells → ListedTo cells list count v → Listing cells list count
listed_all cells list count v e l = record { within = λ k m. omega (arith, l.within k m); inner = l.inner; covers = all }
  where
    all : (u : ℕ) → inner_of cells u ≡ true → (excess_of cells u ≢ pos 0) → (k : ℕ) × ((k < count) × (get_or list k 0 ≡ u))
    all u i n = elim (cases_lt u v) [
      | inl m ↦ let r = l.all u m i n in (r.0, (r.1, r.2))
      | inr m ↦ absurd (n (ap (λ (c : Cell). c.excess) (get_or_past cells u no_cell (omega arith))))
    ]

-- the first ones alone
pub listed_part : (cells : List Cell) (list : List ℕ) (count : ℕ) → count ≤ length list → Listing cells list count → Listing cells (take count list) (length (take count list))
listed_part cells list count l p = record {
  within = λ k m. subst (λ (v : ℕ). v < length cells) (sym (same k (omega (arith, long, m)))) (p.within k (omega (arith, long, m)));
  inner = λ k m. ap (inner_of cells) (same k (omega (arith, long, m))) ∙ p.inner k (omega (arith, long, m));
  covers = λ u i n. let r = p.covers u i n in (r.0, (omega (arith, long, r.1.0), same r.0 r.1.0 ∙ r.1.1));
}
  where
    long : length (take count list) ≡ count
    long = length-take-le count list l

    same : (k : ℕ) → k < count → get_or (take count list) k 0 ≡ get_or list k 0
    same k m = search (rules, get_or-take)
