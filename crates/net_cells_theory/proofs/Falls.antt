-- What is left of a search falls.
use Rattle.std.proofs.Common.{◌≡◌, ℕ, ◌+◌, ◌<◌, ◌≤◌, Bool, true, false, ℤ, pos, nat_abs, ◌≤ℤ◌, ◌<ℤ◌, ap, ap₂, refl, arith}
use Rattle.std.proofs.lemmas.Int.{ints}
use Rattle.sums.proofs.Sum.{sum_change}
use Rattle.net_cells.specs.Search.{one_for}
use Rattle.net_cells_theory.specs.Promise.{RelaxingFalls, TakingFalls}

pub one_at_most : (b : Bool) → one_for b ≤ 1
one_at_most true = omega arith
one_at_most false = omega arith

-- what a cell adds to the effort
abbrev pub share : ℤ → Bool → ℕ
share z b = nat_abs z + nat_abs z + one_for b

smaller : (a b : ℤ) (p q : Bool) → pos 0 ≤ℤ a → a <ℤ b → share a p < share b q
smaller a b p q h l = omega (arith, ints, one_at_most p, one_at_most q)

pub relaxing_falls : RelaxingFalls
relaxing_falls g within far was now k k' u d m w s i l room h r =
    omega (
      arith,
      sum_change m (g.head u d) (λ v. share (k'.label v) (now v)) (λ v. share (k.label v) (was v)) room
          (λ v _ ne. ap₂ share (r.relabelled.label_kept v ne) (r.open_kept v ne)),
      smaller (k'.label (g.head u d)) (k.label (g.head u d)) (now (g.head u d)) (was (g.head u d)) (omega (arith, ints, r.relabelled.label_here, s.least u, w.forward u d i l))
          (omega (arith, ints, r.relabelled.label_here)),
    )

pub taking_falls : TakingFalls
taking_falls label was now u m l a b e =
    omega (arith, sum_change m u (λ v. share (label v) (now v)) (λ v. share (label v) (was v)) l (λ v _ ne. ap (share (label v)) (e v ne)), ap one_for a, ap one_for b)
