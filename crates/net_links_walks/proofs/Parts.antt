-- Numbers that cost nothing where all closed walks vanish: parts that are connected are joined link by link.
use Rattle.std.proofs.Common.{◌≡◌, ℕ, zero, suc, ◌<◌, ◌≤◌, ◌⊎◌, ℤ, pos, ◌+ℤ◌, ◌-ℤ◌, neg_ℤ, sym, refl, ap, ◌∙◌, subst, inl, inr, arith}
use native.Mathlib.Decide.{ℕ_discrete}
use Rattle.std.proofs.lemmas.Int.{ints}
use Rattle.std.proofs.lemmas.Bool.{cases_lt}
use Rattle.sums.proofs.Sum.{if_so}
use Rattle.net_links.specs.Links.{Links, Numbers}
use Rattle.net_links_walks.specs.Walks.{Walk, ClosedWalksVanish}
use Rattle.net_links_walks.specs.Walks.Walk.{here, forth, back}
use Rattle.net_links_walks.specs.Theorems.{ZeroCostIffClosedWalksVanish}
use Rattle.net_links_walks.proofs.Walks.{as_expected, costs_nothing, rises, AsExpected}

module _ (l : Links) where
  -- one walk after the other
  onward : {u v : ℕ} {e : ℤ} → Walk l u v e → (w : ℕ) (d : ℤ) → Walk l v w d → Walk l u w (e +ℤ d)
  onward {u} {v} {e} a w d here = subst (Walk l u v) (plain e) a
    where
      plain : (e : ℤ) → e ≡ e +ℤ pos 0
      plain e = omega (arith, ints)
  onward {u} {v} {e} a _ _ (forth i {e = d} h p b) = subst (Walk l u (l.to i)) (assoc e d (l.low i)) (forth i h p (onward a (l.from i) d b))
    where
      assoc : (a b c : ℤ) → (a +ℤ b) +ℤ c ≡ a +ℤ (b +ℤ c)
      assoc a b c = omega (arith, ints)
  onward {u} {v} {e} a _ _ (back i {e = d} h p b) = subst (Walk l u (l.from i)) (assoc e d (l.low i)) (back i h p (onward a (l.to i) d b))
    where
      assoc : (a b c : ℤ) → (a +ℤ b) -ℤ c ≡ a +ℤ (b -ℤ c)
      assoc a b c = omega (arith, ints)

  -- numbers and labels, such that nodes of one label are joined by a walk along which what is expected is what their numbers differ by
  record Labelled : Type 0 where
    numbers : Numbers
    label : ℕ → ℕ
    walk : (x y : ℕ) → label x ≡ label y → Walk l x y (numbers y -ℤ numbers x)

  -- nodes of one label in the first are of one label in the second
  Coarser : Labelled → Labelled → Type 0
  Coarser s s' = (x y : ℕ) → s.label x ≡ s.label y → s'.label x ≡ s'.label y

  -- each node has a label of its own
  alone : Labelled
  alone = record { numbers = λ x. pos 0; label = λ x. x; walk = λ x y e. subst (λ (z : ℕ). Walk l x z (pos 0 -ℤ pos 0)) e (subst (Walk l x x) (omega (arith, ints)) here) }

  module _ (s : Labelled) (x y : ℕ) (e : ℤ) (there : Walk l x y e) (home : Walk l y x (neg_ℤ e)) where
    -- the nodes of the label of y get the label of x, and their numbers are moved to lie e above
    abbrev k : ℤ
    k = (s.numbers y -ℤ s.numbers x) -ℤ e

    unfoldable joined_label : ℕ → ℕ
    joined_label u = if_so (ℕ_discrete (s.label u) (s.label y)) (s.label x) (s.label u)

    unfoldable joined_numbers : Numbers
    joined_numbers u = if_so (ℕ_discrete (s.label u) (s.label y)) (s.numbers u -ℤ k) (s.numbers u)

    joined : Labelled
    unfolding joined_label joined_numbers if_so ℕ_discrete
    joined = record { numbers = joined_numbers; label = joined_label; walk = λ a b. by a b (ℕ_discrete (s.label a) (s.label y)) (ℕ_discrete (s.label b) (s.label y)) }
      where
        by : (a b : ℕ) (m : Dec (s.label a ≡ s.label y)) (n : Dec (s.label b ≡ s.label y)) →
            if_so m (s.label x) (s.label a) ≡ if_so n (s.label x) (s.label b) →
            Walk l a b (if_so n (s.numbers b -ℤ k) (s.numbers b) -ℤ if_so m (s.numbers a -ℤ k) (s.numbers a))
        by a b (yes m) (yes n) h = subst (Walk l a b) (omega (arith, ints)) (s.walk a b (m ∙ sym n))
        by a b (no m) (no n) h = s.walk a b h
        by a b (yes m) (no n) h = subst (Walk l a b) (omega (arith, ints)) (onward (onward (s.walk a y m) x (neg_ℤ e) home) b (s.numbers b -ℤ s.numbers x) (s.walk x b h))
        by a b (no m) (yes n) h = subst (Walk l a b) (omega (arith, ints)) (onward (onward (s.walk a x h) y e there) b (s.numbers b -ℤ s.numbers y) (s.walk y b (sym n)))

    joined_coarser : Coarser s joined
    unfolding Coarser joined joined_label
    joined_coarser a b h = ap (λ (m : ℕ). if_so (ℕ_discrete m (s.label y)) (s.label x) m) h

    joined_one : joined.label x ≡ joined.label y
    unfolding joined joined_label
    joined_one = left (ℕ_discrete (s.label x) (s.label y)) ∙ sym (right (ℕ_discrete (s.label y) (s.label y)))
      where
        left : (m : Dec (s.label x ≡ s.label y)) → if_so m (s.label x) (s.label x) ≡ s.label x
        left (yes m) = unfold if_so in refl
        left (no m) = unfold if_so in refl

        right : (m : Dec (s.label y ≡ s.label y)) → if_so m (s.label x) (s.label y) ≡ s.label x
        right (yes m) = unfold if_so in refl
        right (no m) = absurd (m refl)

  -- both ends of each of the first n links with a price are of one label
  Joins : ℕ → Labelled → Type 0
  Joins n s = (i : ℕ) → i < n → 1 ≤ l.price i → s.label (l.from i) ≡ s.label (l.to i)

  forth_one : (i : ℕ) → i < l.count → 1 ≤ l.price i → Walk l (l.from i) (l.to i) (l.low i)
  forth_one i h p = subst (Walk l (l.from i) (l.to i)) (omega (arith, ints)) (forth i h p here)

  back_one : (i : ℕ) → i < l.count → 1 ≤ l.price i → Walk l (l.to i) (l.from i) (neg_ℤ (l.low i))
  back_one i h p = subst (Walk l (l.to i) (l.from i)) (omega (arith, ints)) (back i h p here)

  parts : (n : ℕ) → n ≤ l.count → (s : Labelled) × Joins n s
  unfolding Joins Coarser
  parts zero h = (alone, λ i k. absurd (omega arith))
  parts (suc n) h = by (parts n (omega arith)).0 (parts n (omega arith)).1 (cases_lt 0 (l.price n))
    where
      last : (i : ℕ) → i < suc n → (i ≡ n) ⊎ (i < n)
      last i g = grind arith

      by : (s : Labelled) → Joins n s → (0 < l.price n) ⊎ (l.price n ≤ 0) → (s : Labelled) × Joins (suc n) s
      by s old (inr free) = (s, λ i g p. elim (last i g) [ inl e ↦ absurd (omega (arith, ap l.price e)) | inr g ↦ old i g p ])
      by s old (inl dear) =
          let t = forth_one n h (omega arith) in
          let b = back_one n h (omega arith) in
          let u = joined s (l.from n) (l.to n) (l.low n) t b in (
            u,
            λ i g p. elim (last i g) [
              | inl e ↦ subst (λ (j : ℕ). u.label (l.from j) ≡ u.label (l.to j)) (sym e) (joined_one s (l.from n) (l.to n) (l.low n) t b)
              | inr g ↦ joined_coarser s (l.from n) (l.to n) (l.low n) t b (l.from i) (l.to i) (old i g p)
            ],
          )

  numbers_found : ClosedWalksVanish l → (v : Numbers) × AsExpected l v
  unfolding Joins
  numbers_found closed = by (parts l.count (omega arith)).0 (parts l.count (omega arith)).1
    where
      by : (s : Labelled) → Joins l.count s → (v : Numbers) × AsExpected l v
      by s joins = (s.numbers, λ i h p. omega (arith, ints, closed (l.from i) _ (onward (s.walk (l.from i) (l.to i) (joins i h p)) (l.from i) (neg_ℤ (l.low i)) (back_one i h p))))

pub zero_cost_iff_closed_walks_vanish : ZeroCostIffClosedWalksVanish
zero_cost_iff_closed_walks_vanish l exact = (
  λ some u e w. omega (arith, ints, rises l some.0 exact (as_expected l some.0 exact some.1) u u e w),
  λ closed. let found = numbers_found l closed in (found.0, costs_nothing l found.0 exact found.1),
)
