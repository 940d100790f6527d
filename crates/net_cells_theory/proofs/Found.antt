-- The way to what was found is tight.
use Rattle.std.proofs.Common.{◌≡◌, ℕ, zero, suc, ◌≤◌, ℤ, pos, ◌+ℤ◌, ◌-ℤ◌, nat_abs, ◌≤ℤ◌, ◌<ℤ◌, ◌≢◌, ap, sym, subst, ◌∙◌, inl, inr, arith}
use Rattle.std.proofs.lemmas.Int.{ints}
use Rattle.std.proofs.lemmas.Bool.{cases_eq}
use Rattle.net_cells.specs.Net.{Residual, Feasible, reduced}
use Rattle.net_cells.specs.Search.{Search, Parent, Searched, Lowered, Step, Track, start, step}
use Rattle.net_cells_theory.specs.Promise.{FoundTrack}
use Rattle.net_cells_theory.proofs.Edge.{cases_lt_ℤ}
use Rattle.net_cells_theory.proofs.Lower.{keeps}

module _ (g h : Residual) (within far : ℤ) (k : Search) (w : Feasible g) (e : Searched g within far k) (l : Lowered k g h) (b : k.bound <ℤ within) where
  lowered_below : (v : ℕ) → k.label v ≤ℤ k.bound → h.potential v ≡ (g.potential v +ℤ k.label v) -ℤ k.bound
  lowered_below v i = elim (cases_lt_ℤ (k.label v) k.bound) [
    | inl j ↦ l.near v j
    | inr j ↦ omega (arith, ints, l.beyond v j)
  ]

  abbrev pub cost_in : ℕ → ℤ
  cost_in v = reduced g (k.from v) (k.way v)

  pub parent_of : (v : ℕ) → (v ≢ k.source) → k.label v ≤ℤ k.bound → Parent g k v
  parent_of v ne i = e.parent v ne (omega (arith, ints, b, e.near))

  pub cost_some : (v : ℕ) → Parent g k v → pos 0 ≤ℤ cost_in v
  cost_some v p = w.forward (k.from v) (k.way v) p.inner p.is_way

  pub nearer : (v : ℕ) → Parent g k v → k.label (k.from v) ≤ℤ k.label v
  nearer v p = omega (arith, ints, cost_some v p, p.least)

  pub tight_in : (v : ℕ) → (p : Parent g k v) → k.label v ≤ℤ k.bound → reduced h (k.from v) (k.way v) ≡ pos 0
  tight_in v p i =
      let sound = keeps g h within far k w e l in
      omega (
        arith,
        ints,
        l.cost (k.from v) (k.way v),
        lowered_below (k.from v) (omega (arith, ints, nearer v p)),
        lowered_below v i,
        ap h.potential (l.head (k.from v) (k.way v)),
        ap h.potential p.head,
        ap g.potential p.head,
        p.least,
        sound.forward (k.from v) (k.way v) (l.inner (k.from v) ∙ p.inner) p.is_way,
      )

  abbrev pub Led : ℕ → Type 0
  Led v = (n : ℕ) × Track k.source k.from (Step h k.from k.way) v n

  last : (v : ℕ) → (v ≢ k.source) → Parent g k v → k.label v ≤ℤ k.bound → Led (k.from v) → Led v
  last v ne p i c =
      (suc c.0, step v c.0 ne (record { inner = l.inner (k.from v) ∙ p.inner; is_way = p.is_way; head = l.head (k.from v) (k.way v) ∙ p.head; tight = tight_in v p i }) c.1)

  first : (v : ℕ) → v ≡ k.source → Led v
  first v z = (0, subst (λ (x : ℕ). Track k.source k.from (Step h k.from k.way) x 0) (sym z) start)

  -- Among labels of at most m, by the times; `shorter` are all with smaller labels.
  by_time : (m : ℕ) → ((v : ℕ) → k.label v ≤ℤ k.bound → k.label v <ℤ pos m → Led v) → (r v : ℕ) → k.time v ≤ r → k.label v ≤ℤ k.bound → k.label v ≤ℤ pos m → Led v
  by_time m shorter zero v q i j = elim (cases_eq v k.source) [
    | inl z ↦ first v z
    | inr ne ↦ from_parent ne (parent_of v ne i)
  ]
    where
      from_parent : (v ≢ k.source) → Parent g k v → Led v
      from_parent ne p = elim (cases_lt_ℤ (k.label (k.from v)) (k.label v)) [
        | inl c ↦ last v ne p i (shorter (k.from v) (omega (arith, ints)) (omega (arith, ints)))
        | inr c ↦ absurd (omega (arith, p.earlier (omega (arith, ints, cost_some v p, p.least))))
      ]
  by_time m shorter (suc r) v q i j = elim (cases_eq v k.source) [
    | inl z ↦ first v z
    | inr ne ↦ from_parent ne (parent_of v ne i) (by_time m shorter r (k.from v))
  ]
    where
      from_parent : (v ≢ k.source) → Parent g k v → (k.time (k.from v) ≤ r → k.label (k.from v) ≤ℤ k.bound → k.label (k.from v) ≤ℤ pos m → Led (k.from v)) → Led v
      from_parent ne p again = elim (cases_lt_ℤ (k.label (k.from v)) (k.label v)) [
        | inl c ↦ last v ne p i (shorter (k.from v) (omega (arith, ints)) (omega (arith, ints)))
        | inr c ↦ last v ne p i (again (omega (arith, p.earlier (omega (arith, ints, cost_some v p, p.least)))) (omega (arith, ints, nearer v p)) (omega (arith, ints, nearer v p)))
      ]

  by_label : (m v : ℕ) → k.label v ≤ℤ k.bound → k.label v ≤ℤ pos m → Led v
  by_label zero v i j = by_time 0 (λ x y c. absurd (omega (arith, ints, e.least x))) (k.time v) v (omega arith) i j
  by_label (suc m) v i j = by_time (suc m) (λ x y c. by_label m x y (omega (arith, ints))) (k.time v) v (omega arith) i j

pub found_track : FoundTrack
found_track g h within far k w e l b =
    let a = e.aims b in
    by_label g h within far k w e l b (nat_abs k.bound) k.target (omega (arith, ints, a.label)) (omega (arith, ints, a.label))
