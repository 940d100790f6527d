-- Parts of a sum of terms that are not negative.
use Rattle.std.proofs.Common.{◌≡◌, ℕ, ◌+◌, ◌-◌, ◌<◌, ◌≤◌, pos, ◌≤ℤ◌, ap, inl, inr, arith}
use lib.Signed.{lt_z}
use Rattle.std.proofs.lemmas.Int.{ints}
use Rattle.std.proofs.lemmas.Bool.{cond-true, cond-false}
use Rattle.sums.specs.Sum.{sum_ℤ}
use Rattle.sums.proofs.Sum.{sum_ℤ_split, sum_ℤ_nonneg}
use Rattle.net_graph.specs.Graph.{Graph, IsArc, negative_arc_capacity}
use Rattle.net_graph.proofs.Points.{cases_lt_ℤ, lt_yes, lt_no}

gains_some : (g : Graph) (a : ℕ) → IsArc g a → pos 0 ≤ℤ negative_arc_capacity g a
gains_some g a h = elim (cases_lt_ℤ (g.cost a) (pos 0)) [
  | inl l ↦ omega (arith, ints, cond-true (lt_z (g.cost a) (pos 0)) (g.limit a) (pos 0) (lt_yes (g.cost a) (pos 0) l), h.allowed)
  | inr l ↦ omega (arith, ints, cond-false (lt_z (g.cost a) (pos 0)) (g.limit a) (pos 0) (lt_no (g.cost a) (pos 0) l))
]

pub part_below : (g : Graph) → ((a : ℕ) → a < g.arcs → IsArc g a) → (k : ℕ) → k ≤ g.arcs → sum_ℤ k (negative_arc_capacity g) ≤ℤ sum_ℤ g.arcs (negative_arc_capacity g)
part_below g arcs k h =
    omega (arith, ints, sum_ℤ_split k (g.arcs - k) (negative_arc_capacity g), sum_ℤ_nonneg (g.arcs - k) (λ i. negative_arc_capacity g (k + i)) (λ i l. gains_some g (k + i) (arcs (k + i) (omega (arith, h, l)))), ap (λ (m : ℕ). sum_ℤ m (negative_arc_capacity g)) whole)
  where
    whole : k + (g.arcs - k) ≡ g.arcs
    whole = omega (arith, h)
