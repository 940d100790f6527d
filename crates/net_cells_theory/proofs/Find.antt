-- What is bounded, and that a search finds something.
use Rattle.std.proofs.Common.{◌≡◌, ℕ, zero, suc, ◌*◌, ◌<◌, ◌≤◌, ℤ, pos, ◌+ℤ◌, nat_abs, ◌≤ℤ◌, ap, true, inl, inr, arith}
use Rattle.std.proofs.lemmas.Int.{ints}
use Rattle.net_cells_theory.specs.Promise.{AlwaysFinds, PotentialsBounded}
use Rattle.net_cells.specs.Net.{Residual, Feasible, back, price}
use Rattle.net_cells.specs.Search.{Search, Searched, Away, Passed}
use Rattle.net_cells_theory.proofs.Edge.{cases_lt_ℤ}

pub potentials_bounded : PotentialsBounded
potentials_bounded g top zero u w p q a = omega (arith, ints, w.outside u a)
potentials_bounded g top (suc j) u w p q (i, (d, (l, a))) =
    omega (arith, ints, w.forward u d i l, w.backward u d i l, p u d i l, q u d i l, potentials_bounded g top j (g.head u d) w p q a)

module _ (g : Residual) (within far : ℤ) (k : Search) (top : ℕ) (w : Feasible g) (e : Searched g within far k)
    (p : (u d : ℕ) → g.inner u ≡ true → d < 4 → price g u d ≤ top) (q : (u d : ℕ) → g.inner u ≡ true → d < 4 → price g (g.head u d) (back d) ≤ top) where
  one_step : (u d m : ℕ) → g.inner u ≡ true → d < 4 → nat_abs (g.potential (g.head u d)) ≤ m → k.bound ≤ℤ (k.label (g.head u d) +ℤ (pos m +ℤ g.potential (g.head u d))) → Passed g k u d →
      k.bound ≤ℤ (k.label u +ℤ ((pos m +ℤ pos top) +ℤ g.potential u))
  one_step u d m i l s r (inl c) = omega (arith, ints, p u d i l)
  one_step u d m i l s r (inr c) = omega (arith, ints, p u d i l)

  near_by : (j u : ℕ) → Away g j u → k.bound ≤ℤ (k.label u +ℤ (pos (top * j) +ℤ g.potential u))
  near_by zero u a = omega (arith, ints, w.outside u a, e.ends u (inl a))
  near_by (suc j) u (i, (d, (l, a))) = elim (cases_lt_ℤ (k.label u) k.bound) [
    | inl c ↦ omega (arith, ints, one_step u d (top * j) i l (potentials_bounded g top j (g.head u d) w p q a) (near_by j (g.head u d) a) (e.passed u d i l c))
    | inr c ↦ omega (arith, ints, potentials_bounded g top (suc j) u w p q (i, (d, (l, a))))
  ]

pub always_finds : AlwaysFinds
always_finds g within far k top j w e p q a h =
    omega (arith, ints, near_by g within far k top w e p q j k.source a, potentials_bounded g top j k.source w p q a, e.no_label)
