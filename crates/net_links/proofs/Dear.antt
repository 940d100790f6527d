-- A link that is dearer than all else at one of its ends holds where numbers cost least: else that end could be moved by one.
use Rattle.std.proofs.Common.{◌≡◌, ℕ, suc, ◌+◌, ◌*◌, ◌<◌, ◌≤◌, eqb, if◌then◌else◌, ◌==◌, ◌⊎◌, ℤ, pos, negsuc, ◌+ℤ◌, ◌-ℤ◌, ◌≤ℤ◌, ◌<ℤ◌, sym, refl, ap, ◌∙◌, inl, inr, mul-add, mul-le-mul_left, arith}
use Rattle.std.proofs.lemmas.Int.{ints}
use Rattle.std.proofs.lemmas.Bool.{cases_eq, eq-eqb, ne_eqb, cond-true, cond-false}
use Rattle.sums.proofs.Sum.{sum_le, sum_add, sum_spike}
use Rattle.net_graph.specs.Graph.{at}
use Rattle.net_graph.proofs.Points.{cases_lt_ℤ, at_same, at_other}
use Rattle.net_theory.proofs.Edge.{up_none, up_some}
use Rattle.net_links.specs.Links.{Links, Numbers, beyond, rise, links_cost, ends_at, other_prices}
use Rattle.net_links.specs.Theorems.{DearLinkHolds}

-- beyond the upper end, one step back is one less
less_above : (low high d d' : ℤ) → low ≤ℤ high → high <ℤ d → d' ≡ (d -ℤ pos 1) → suc (beyond low high d') ≡ beyond low high d
less_above low high d d' o h e = omega (arith, ints, up_some (d -ℤ high) (omega (arith, ints)), up_some (d' -ℤ high) (omega (arith, ints)), up_none (low -ℤ d) (omega (arith, ints)), up_none (low -ℤ d') (omega (arith, ints)))

less_below : (low high d d' : ℤ) → low ≤ℤ high → d <ℤ low → d' ≡ (d +ℤ pos 1) → suc (beyond low high d') ≡ beyond low high d
less_below low high d d' o h e = omega (arith, ints, up_some (low -ℤ d) (omega (arith, ints)), up_some (low -ℤ d') (omega (arith, ints)), up_none (d -ℤ high) (omega (arith, ints)), up_none (d' -ℤ high) (omega (arith, ints)))

-- a step of one changes what lies beyond by one at most, and what does not step changes nothing
one_step : (low high d d' : ℤ) → (d' ≡ (d -ℤ pos 1)) ⊎ (d' ≡ (d +ℤ pos 1)) → beyond low high d' ≤ suc (beyond low high d)
one_step low high d d' (inl e) = grind (arith, ints)
one_step low high d d' (inr e) = grind (arith, ints)

abbrev one : ℕ → ℕ → ℕ
one a b = if a == b then 1 else 0

counts : (a b : ℕ) → a ≡ b → one a b ≡ suc 0
counts a b e = cond-true {A = ℕ} (eqb a b) 1 0 (eq-eqb a b e)

-- the ends of a link at node w
abbrev both_ends : Links → ℕ → ℕ → ℕ
both_ends l w j = one (l.from j) w + one (l.to j) w

one_end : (l : Links) (w j : ℕ) → (l.from j ≡ l.to j → ⊥) → ends_at l w j ≡ both_ends l w j
one_end l w j n = cond-false (eqb (l.from j) (l.to j)) 0 (both_ends l w j) (ne_eqb (l.from j) (l.to j) n)

module _ (l : Links) (v : Numbers) (w : ℕ) (z : ℤ) (unit : (z ≡ pos 1) ⊎ (z ≡ negsuc 0)) where
  -- node w moved by z
  abbrev moved : Numbers
  moved x = v x +ℤ at w z x

  there : (x : ℕ) → x ≡ w → moved x ≡ (v x +ℤ z)
  there x e = omega (arith, ints, at_same w x z e)

  apart : (x : ℕ) → (x ≡ w → ⊥) → moved x ≡ v x
  apart x n = omega (arith, ints, at_other w x z n)

  -- by how much link j rises then
  rises_to : (j : ℕ) → (t f : ℤ) → moved (l.to j) ≡ (v (l.to j) +ℤ t) → moved (l.from j) ≡ (v (l.from j) +ℤ f) → rise l moved j ≡ (rise l v j +ℤ (t -ℤ f))
  rises_to j t f a b = omega (arith, ints, a, b)

  none : (x : ℕ) → (x ≡ w → ⊥) → moved x ≡ (v x +ℤ pos 0)
  none x n = omega (arith, ints, apart x n)

  pub step : (j : ℕ) → beyond (l.low j) (l.high j) (rise l moved j) ≤ beyond (l.low j) (l.high j) (rise l v j) + ends_at l w j
  step j = elim (cases_eq (l.from j) w) [
    | inl e ↦ elim (cases_eq (l.to j) w) [
      | inl f ↦ omega (arith, ap (λ (d : ℤ). beyond (l.low j) (l.high j) d) (level z (rises_to j z z (there (l.to j) f) (there (l.from j) e))))
      | inr f ↦ omega (arith, counts (l.from j) w e, one_end l w j (λ q. f (sym q ∙ e)), one_step (l.low j) (l.high j) (rise l v j) (rise l moved j) (back (rises_to j (pos 0) z (none (l.to j) f) (there (l.from j) e))))
    ]
    | inr e ↦ elim (cases_eq (l.to j) w) [
      | inl f ↦ omega (arith, counts (l.to j) w f, one_end l w j (λ q. e (q ∙ f)), one_step (l.low j) (l.high j) (rise l v j) (rise l moved j) (forth (rises_to j z (pos 0) (there (l.to j) f) (none (l.from j) e))))
      | inr f ↦ omega (arith, ap (λ (d : ℤ). beyond (l.low j) (l.high j) d) (level (pos 0) (rises_to j (pos 0) (pos 0) (none (l.to j) f) (none (l.from j) e))))
    ]
  ]
    where
      level : (t : ℤ) → rise l moved j ≡ (rise l v j +ℤ (t -ℤ t)) → rise l moved j ≡ rise l v j
      level t e = omega (arith, ints, e)

      forth : rise l moved j ≡ (rise l v j +ℤ (z -ℤ pos 0)) → (rise l moved j ≡ (rise l v j -ℤ pos 1)) ⊎ (rise l moved j ≡ (rise l v j +ℤ pos 1))
      forth e = elim unit [ inl u ↦ inr (omega (arith, ints, e, u)) | inr u ↦ inl (omega (arith, ints, e, u)) ]

      back : rise l moved j ≡ (rise l v j +ℤ (pos 0 -ℤ z)) → (rise l moved j ≡ (rise l v j -ℤ pos 1)) ⊎ (rise l moved j ≡ (rise l v j +ℤ pos 1))
      back e = elim unit [ inl u ↦ inl (omega (arith, ints, e, u)) | inr u ↦ inr (omega (arith, ints, e, u)) ]

  -- where link i then costs one less, what all cost falls by its price less what the others may cost
  module _ (i : ℕ) (h : i < l.count) (less : suc (beyond (l.low i) (l.high i) (rise l moved i)) ≡ beyond (l.low i) (l.high i) (rise l v i)) where
    abbrev gone : ℕ → ℕ
    gone j = if j == i then l.price i else 0

    abbrev other : ℕ → ℕ
    other j = if j == i then 0 else l.price j * ends_at l w j

    each : (j : ℕ) → j < l.count → l.price j * beyond (l.low j) (l.high j) (rise l moved j) + gone j ≤ l.price j * beyond (l.low j) (l.high j) (rise l v j) + other j
    each j k = elim (cases_eq j i) [
      | inl e ↦ here e
      | inr n ↦ omega (arith, cond-false (eqb j i) (l.price i) 0 (ne_eqb j i n), cond-false (eqb j i) 0 (l.price j * ends_at l w j) (ne_eqb j i n), mul-le-mul_left (l.price j) (step j), mul-add (l.price j) (beyond (l.low j) (l.high j) (rise l v j)) (ends_at l w j))
    ]
      where
        here : j ≡ i → l.price j * beyond (l.low j) (l.high j) (rise l moved j) + gone j ≤ l.price j * beyond (l.low j) (l.high j) (rise l v j) + other j
        here e = rw e (omega (arith, cond-true (eqb i i) (l.price i) 0 (eq-eqb i i refl), cond-true (eqb i i) 0 (l.price i * ends_at l w i) (eq-eqb i i refl), ap (λ (n : ℕ). l.price i * n) (sym less), mul-add (l.price i) (beyond (l.low i) (l.high i) (rise l moved i)) 1))

    pub falls : links_cost l moved + l.price i ≤ links_cost l v + other_prices l w i
    unfolding links_cost
    falls =
        let a : ℕ → ℕ = λ j. l.price j * beyond (l.low j) (l.high j) (rise l moved j) in
        let b : ℕ → ℕ = λ j. l.price j * beyond (l.low j) (l.high j) (rise l v j) in
        omega (
          arith,
          sum_le l.count (λ j. a j + gone j) (λ j. b j + other j) each,
          sum_add l.count a gone,
          sum_add l.count b other,
          sum_spike l.count i gone h (λ j k n. cond-false (eqb j i) (l.price i) 0 (ne_eqb j i n)),
          cond-true (eqb i i) (l.price i) 0 (eq-eqb i i refl),
        )

pub dear_link_holds : DearLinkHolds
dear_link_holds l v w i h o proper end dear least = record { above = elim (cases_lt_ℤ (rise l v i) (l.low i)) [ inl b ↦ absurd (low b) | inr b ↦ b ]; below = elim (cases_lt_ℤ (l.high i) (rise l v i)) [ inl b ↦ absurd (high b) | inr b ↦ b ] }
  where
    contra : (z : ℤ) (unit : (z ≡ pos 1) ⊎ (z ≡ negsuc 0)) → suc (beyond (l.low i) (l.high i) (rise l (moved l v w z unit) i)) ≡ beyond (l.low i) (l.high i) (rise l v i) → ⊥
    contra z unit less = omega (arith, falls l v w z unit i h less, least (moved l v w z unit), dear)

    to_end : (z : ℤ) (unit : (z ≡ pos 1) ⊎ (z ≡ negsuc 0)) → w ≡ l.to i → rise l (moved l v w z unit) i ≡ (rise l v i +ℤ z)
    to_end z unit e = omega (arith, ints, there l v w z unit (l.to i) (sym e), apart l v w z unit (l.from i) (λ q. proper (q ∙ e)))

    from_end : (z : ℤ) (unit : (z ≡ pos 1) ⊎ (z ≡ negsuc 0)) → w ≡ l.from i → rise l (moved l v w z unit) i ≡ (rise l v i -ℤ z)
    from_end z unit e = omega (arith, ints, there l v w z unit (l.from i) (sym e), apart l v w z unit (l.to i) (λ q. proper (sym e ∙ sym q)))

    high : l.high i <ℤ rise l v i → ⊥
    high b = elim end [
      | inl e ↦ contra (pos 1) (inl refl) (less_above (l.low i) (l.high i) (rise l v i) (rise l (moved l v w (pos 1) (inl refl)) i) o b (from_end (pos 1) (inl refl) e))
      | inr e ↦ contra (negsuc 0) (inr refl) (less_above (l.low i) (l.high i) (rise l v i) (rise l (moved l v w (negsuc 0) (inr refl)) i) o b (omega (arith, ints, to_end (negsuc 0) (inr refl) e)))
    ]

    low : rise l v i <ℤ l.low i → ⊥
    low b = elim end [
      | inl e ↦ contra (negsuc 0) (inr refl) (less_below (l.low i) (l.high i) (rise l v i) (rise l (moved l v w (negsuc 0) (inr refl)) i) o b (omega (arith, ints, from_end (negsuc 0) (inr refl) e)))
      | inr e ↦ contra (pos 1) (inl refl) (less_below (l.low i) (l.high i) (rise l v i) (rise l (moved l v w (pos 1) (inl refl)) i) o b (to_end (pos 1) (inl refl) e))
    ]
