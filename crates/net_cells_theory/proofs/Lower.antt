-- Lowering keeps reduced costs at 0 or above.
use Rattle.std.proofs.Common.{◌≡◌, ℕ, ◌<◌, ℤ, pos, ◌+ℤ◌, ◌-ℤ◌, ◌≤ℤ◌, refl, ap, sym, subst, ◌∙◌, true, false, inl, inr, arith}
use Rattle.std.proofs.lemmas.Int.{ints}
use Rattle.std.proofs.lemmas.Bool.{cases_Bool}
use Rattle.net_cells.specs.Net.{Residual, Paired, Feasible, back, reduced, reduced_back}
use Rattle.net_cells.specs.Search.{Search, Searched, Lowered}
use Rattle.net_cells_theory.specs.Promise.{LoweringKeeps}
use Rattle.net_cells_theory.proofs.Edge.{Capped, capped_le}
use Rattle.net_cells_theory.proofs.Ways.{back_less, back_twice}

module _ (g h : Residual) (within far : ℤ) (k : Search) (w : Feasible g) (e : Searched g within far k) (l : Lowered k g h) where
  -- the label of v, at most the bound
  abbrev pub cap : ℕ → ℤ
  cap v = (h.potential v -ℤ g.potential v) +ℤ k.bound

  pub capped : (v : ℕ) → Capped (k.label v) k.bound (cap v)
  capped v = record { near = λ i. omega (arith, ints, l.near v i); beyond = λ i. omega (arith, ints, l.beyond v i) }

  pub forward_cap : (u d : ℕ) → g.inner u ≡ true → d < 4 → cap (g.head u d) ≤ℤ (cap u +ℤ reduced g u d)
  forward_cap u d i m =
      capped_le (k.label u) (k.label (g.head u d)) k.bound (cap u) (cap (g.head u d)) (reduced g u d) (w.forward u d i m)
      (capped u) (capped (g.head u d)) (λ j. e.passed u d i m j)

  pub backward_cap : (u d : ℕ) → g.inner u ≡ true → d < 4 → cap u ≤ℤ (cap (g.head u d) +ℤ reduced_back g u d)
  backward_cap u d i m = elim (cases_Bool (g.inner (g.head u d))) [
    | inl j ↦ within_there j
    | inr j ↦ out_there j
  ]
    where
      out_there : g.inner (g.head u d) ≡ false → cap u ≤ℤ (cap (g.head u d) +ℤ reduced_back g u d)
      out_there z =
          capped_le (k.label (g.head u d)) (k.label u) k.bound (cap (g.head u d)) (cap u) _ (w.backward u d i m) (capped (g.head u d)) (capped u)
          (λ j. absurd (omega (arith, ints, e.ends (g.head u d) (inl z))))

      within_there : g.inner (g.head u d) ≡ true → cap u ≤ℤ (cap (g.head u d) +ℤ reduced_back g u d)
      within_there z =
          subst (λ (v : ℕ). cap v ≤ℤ (cap (g.head u d) +ℤ ((g.cost (g.head u d) (back d) +ℤ g.potential (g.head u d)) -ℤ g.potential v))) (w.paired.home u d i m)
          (forward_cap (g.head u d) (back d) z (back_less d m))

  pub keeps : Feasible h
  keeps = record {
    paired = record {
      home = λ u d i m. l.head (h.head u d) (back d) ∙ (ap (λ (v : ℕ). g.head v (back d)) (l.head u d) ∙ w.paired.home u d (sym (l.inner u) ∙ i) m);
      apart = λ u d i m z. w.paired.apart u d (sym (l.inner u) ∙ i) m (sym (l.head u d) ∙ z);
    };
    forward = λ u d i m. omega (arith, ints, l.cost u d, ap h.potential (l.head u d), forward_cap u d (sym (l.inner u) ∙ i) m);
    backward = λ u d i m.
        omega (arith, ints, l.cost (h.head u d) (back d), ap (λ (v : ℕ). g.cost v (back d)) (l.head u d), ap h.potential (l.head u d), backward_cap u d (sym (l.inner u) ∙ i) m);
    outside = λ v z. let y : g.inner v ≡ false = sym (l.inner v) ∙ z in omega (arith, ints, l.beyond v (e.ends v (inl y)), w.outside v y);
  }

pub lowering_keeps : LoweringKeeps
lowering_keeps g h within far k w e l = keeps g h within far k w e l
