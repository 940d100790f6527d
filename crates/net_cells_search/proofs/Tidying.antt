-- The list of the cells that have a label.
use Rattle.std.proofs.Common.{◌≡◌, ℕ, suc, ◌+◌, ◌<◌, ◌≤◌, ◌⊎◌, Bool, true, false, List, length, ℤ, pos, ◌≤ℤ◌, ◌<ℤ◌, ◌≢◌, sym, ap, ap₂, ◌∙◌, subst, refl, inl, inr, slice_index, arith}
use lib.Signed.{lt_z}
use Rattle.std.proofs.lemmas.Int.{ints}
use Rattle.std.proofs.lemmas.Bool.{cases_eq, both_ways, cond-true, cond-false}
use Rattle.sums.specs.Sum.{sum_to}
use Rattle.sums.proofs.Sum.{sum_change, sum_const, sum_ext, member_le_sum}
use Rattle.net_cells_theory.proofs.Edge.{cases_lt_ℤ}
use Rattle.net_cells.specs.declared.cell.Mark.{Mark}
use Rattle.net_cells_search.specs.Marks.{far, label_of, open_of, unmet, Tidy, Listed, Blank}
use Rattle.net_cells_search.proofs.Lowering.{not_lt}

pub unmet_far : (z : ℤ) → far ≤ℤ z → unmet z ≡ 1
unmet_far z h = cond-false (lt_z z far) 0 1 (not_lt z far h)

pub unmet_near : (z : ℤ) → z <ℤ far → unmet z ≡ 0
unmet_near z h = cond-true (lt_z z far) 0 1 (grind (arith, ints))

-- a list has room for one more
pub few : (marks : List Mark) (touched : List ℕ) (count : ℕ) → Tidy marks touched count → count ≤ length marks
few marks touched count t = omega (arith, t.counted)

module _ (old new : List Mark) (touched touched' : List ℕ) (count count' v : ℕ) (r : ℤ) (t : Tidy old touched count) (l : Listed (label_of old v) touched touched' count count' v)
    (room : v < length old) (same : length new ≡ length old) (low : r <ℤ far) (here : label_of new v ≡ r) (kept : (w : ℕ) → (w ≢ v) → label_of new w ≡ label_of old w)
    (open_kept : (w : ℕ) → (w ≢ v) → open_of new w ≡ open_of old w) where
  more_or_same : ((label_of old v ≡ far) × (count' ≡ count + 1)) ⊎ ((label_of old v <ℤ far) × (count' ≡ count))
  more_or_same = elim (cases_lt_ℤ (label_of old v) far) [
    | inl i ↦ inr (i, l.same i)
    | inr i ↦ (let e : label_of old v ≡ far = omega (arith, ints, t.top v) in inl (e, l.more e))
  ]

  cells : (k : ℕ) → k < count' → slice_index touched' k < length new
  cells k h = elim (cases_eq k count) [
    | inl e ↦ omega (arith, ap (slice_index touched') e, l.last)
    | inr ne ↦ before (less more_or_same ne)
  ]
    where
      less : ((label_of old v ≡ far) × (count' ≡ count + 1)) ⊎ ((label_of old v <ℤ far) × (count' ≡ count)) → (k ≢ count) → k < count
      less (inl y) ne = omega (arith, y.1)
      less (inr y) ne = omega (arith, y.1)

      before : k < count → slice_index touched' k < length new
      before j = omega (arith, l.kept k j, t.cells k j)

  grown : count ≤ count'
  grown = by more_or_same
    where
      by : ((label_of old v ≡ far) × (count' ≡ count + 1)) ⊎ ((label_of old v <ℤ far) × (count' ≡ count)) → count ≤ count'
      by (inl y) = omega (arith, y.1)
      by (inr y) = omega (arith, y.1)

  abbrev Found : ℕ → Type 0
  Found w = (k : ℕ) × ((k < count') × (slice_index touched' k ≡ w))

  again : (w : ℕ) → label_of old w <ℤ far → Found w
  again w h = let c = t.covered w h in (c.0, (omega (arith, c.1.0, grown), l.kept c.0 c.1.0 ∙ c.1.1))

  covered : (w : ℕ) → label_of new w <ℤ far → Found w
  covered w h = elim (cases_eq w v) [
    | inl e ↦ subst Found (sym e) (at_v more_or_same)
    | inr ne ↦ again w (omega (arith, ints, kept w ne))
  ]
    where
      at_v : ((label_of old v ≡ far) × (count' ≡ count + 1)) ⊎ ((label_of old v <ℤ far) × (count' ≡ count)) → Found v
      at_v (inl y) = (count, (omega (arith, y.1), l.last))
      at_v (inr y) = again v y.0

  counted : count' + sum_to (length new) (λ w. unmet (label_of new w)) ≡ length new
  counted = rw same (by more_or_same)
    where
      change : sum_to (length old) (λ w. unmet (label_of new w)) + unmet (label_of old v) ≡ sum_to (length old) (λ w. unmet (label_of old w)) + unmet (label_of new v)
      change = sum_change (length old) v (λ w. unmet (label_of new w)) (λ w. unmet (label_of old w)) room (λ w _ ne. ap unmet (kept w ne))

      none : unmet (label_of new v) ≡ 0
      none = unmet_near (label_of new v) (omega (arith, ints, here))

      by : ((label_of old v ≡ far) × (count' ≡ count + 1)) ⊎ ((label_of old v <ℤ far) × (count' ≡ count)) → count' + sum_to (length old) (λ w. unmet (label_of new w)) ≡ length old
      by (inl y) = omega (arith, y.1, change, none, t.counted, unmet_far (label_of old v) (omega (arith, ints, y.0)))
      by (inr y) = omega (arith, y.1, change, none, t.counted, unmet_near (label_of old v) y.0)

  pub tidy_more : Tidy new touched' count'
  tidy_more = record {
    cells = cells;
    covered = covered;
    counted = counted;
    top = λ w. elim (cases_eq w v) [
      | inl e ↦ omega (arith, ints, ap (label_of new) e, here)
      | inr ne ↦ omega (arith, ints, kept w ne, t.top w)
    ];
    met = λ w o. elim (cases_eq w v) [
      | inl e ↦ omega (arith, ints, ap (label_of new) e, here)
      | inr ne ↦ omega (arith, ints, kept w ne, t.met w (sym (open_kept w ne) ∙ o))
    ];
  }

  pub roomy : count' ≤ length old
  roomy = omega (arith, counted, same)

-- where nothing has a label
pub tidy_none : (marks : List Mark) (touched : List ℕ) → Blank marks → Tidy marks touched 0
tidy_none marks touched b = record {
  cells = λ k l. absurd (omega arith);
  covered = λ v l. absurd (omega (arith, ints, b.label v));
  counted =
      omega (
        arith,
        sum_ext (length marks) (λ v. unmet (label_of marks v)) (λ _. 1) (λ v _. unmet_far (label_of marks v) (omega (arith, ints, b.label v))),
        sum_const (length marks) 1,
      );
  top = λ v. omega (arith, ints, b.label v);
  met = λ v o. absurd (both_ways (open_of marks v) (b.shut v) o);
}

-- a cell that waits no more changes nothing else
pub tidy_shut : (old new : List Mark) (touched : List ℕ) (count : ℕ) → length new ≡ length old → ((w : ℕ) → label_of new w ≡ label_of old w) → ((w : ℕ) → open_of new w ≡ true → open_of old w ≡ true) →
    Tidy old touched count → Tidy new touched count
tidy_shut old new touched count same label waits t = record {
  cells = λ k l. omega (arith, t.cells k l);
  covered = λ v l. t.covered v (omega (arith, ints, label v));
  counted = rw same (omega (arith, t.counted, sum_ext (length old) (λ v. unmet (label_of new v)) (λ v. unmet (label_of old v)) (λ v _. ap unmet (label v))));
  top = λ v. omega (arith, ints, label v, t.top v);
  met = λ v o. omega (arith, ints, label v, t.met v (waits v o));
}
