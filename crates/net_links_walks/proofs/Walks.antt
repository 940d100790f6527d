-- Numbers that cost nothing, along walks.
use Rattle.std.proofs.Common.{◌≡◌, ℕ, zero, suc, ◌*◌, ◌<◌, ◌≤◌, ◌⊎◌, ℤ, ◌+ℤ◌, ◌-ℤ◌, sym, ap, ◌∙◌, inl, inr, suc-mul, mul-zero, zero-mul, arith}
use Rattle.std.proofs.lemmas.Int.{ints}
use Rattle.std.proofs.lemmas.Bool.{cases_lt}
use Rattle.sums.proofs.Sum.{sum_zero, sum_zero_each}
use Rattle.net_links.specs.Links.{Links, Numbers, beyond, rise, links_cost}
use Rattle.net_links_walks.specs.Walks.{Exact, Walk}
use Rattle.net_links_walks.specs.Walks.Walk.{here, forth, back}
use Rattle.net_links_walks.specs.Theorems.{ZeroCostRisesAsExpected, ZeroCostUniqueByPart}

-- along all links with a price numbers rise by what is expected
abbrev pub AsExpected : Links → Numbers → Type 0
AsExpected l v = (i : ℕ) → i < l.count → 1 ≤ l.price i → rise l v i ≡ l.low i

none_beyond : (m d : ℤ) → d ≡ m → beyond m m d ≡ 0
none_beyond m d e = grind (arith, ints)

as_low : (low high d : ℤ) → low ≡ high → beyond low high d ≡ 0 → d ≡ low
as_low low high d o e = grind (arith, ints)

factor : (p k : ℕ) → p * k ≡ 0 → 1 ≤ p → k ≡ 0
factor zero k e h = absurd (omega arith)
factor (suc p) k e h = omega (arith, e, suc-mul p k)

module _ (l : Links) (v : Numbers) (exact : Exact l) where
  pub as_expected : links_cost l v ≡ 0 → AsExpected l v
  unfolding links_cost
  as_expected e i h p =
      as_low (l.low i) (l.high i) (rise l v i) (exact i h)
      (factor (l.price i) _ (sum_zero_each l.count (λ j. l.price j * beyond (l.low j) (l.high j) (rise l v j)) e i h) p)

  pub costs_nothing : AsExpected l v → links_cost l v ≡ 0
  unfolding links_cost
  costs_nothing a = sum_zero l.count (λ i. l.price i * beyond (l.low i) (l.high i) (rise l v i)) (λ i h. each i h (cases_lt 0 (l.price i)))
    where
      each : (i : ℕ) → i < l.count → (0 < l.price i) ⊎ (l.price i ≤ 0) → l.price i * beyond (l.low i) (l.high i) (rise l v i) ≡ 0
      each i h (inl p) =
          ap (λ (k : ℕ). l.price i * k) (ap (λ (m : ℤ). beyond (l.low i) m (rise l v i)) (sym (exact i h)) ∙ none_beyond (l.low i) (rise l v i) (a i h (omega arith)))
          ∙ mul-zero (l.price i)
      each i h (inr p) = ap (λ (k : ℕ). k * beyond (l.low i) (l.high i) (rise l v i)) (nil (l.price i) p) ∙ zero-mul (beyond (l.low i) (l.high i) (rise l v i))
        where
          nil : (k : ℕ) → k ≤ 0 → k ≡ 0
          nil k q = omega arith

  pub rises : AsExpected l v → (a b : ℕ) (e : ℤ) → Walk l a b e → v b ≡ v a +ℤ e
  rises x a b e here = omega (arith, ints)
  rises x a _ _ (forth i {e} h p w) = omega (arith, ints, rises x a (l.from i) e w, x i h p)
  rises x a _ _ (back i {e} h p w) = omega (arith, ints, rises x a (l.to i) e w, x i h p)

pub zero_cost_rises_as_expected : ZeroCostRisesAsExpected
zero_cost_rises_as_expected l v exact none = rises l v exact (as_expected l v exact none)

pub zero_cost_unique_by_part : ZeroCostUniqueByPart
zero_cost_unique_by_part l u v exact none_u none_v a =
    (v a -ℤ u a, λ b e w. omega (arith, ints, rises l u exact (as_expected l u exact none_u) a b e w, rises l v exact (as_expected l v exact none_v) a b e w))
