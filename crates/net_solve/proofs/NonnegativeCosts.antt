-- Where no arc has a negative cost, the initial flow is 0.
use Rattle.std.proofs.Common.{◌≡◌, ℕ, ◌<◌, false, cond, pos, neg_ℤ, ◌≤ℤ◌, ◌∙◌}
use lib.Signed.{lt_z}
use Rattle.std.proofs.lemmas.Bool.{cond-false}
use Rattle.sums.specs.Sum.{sum_ℤ}
use Rattle.sums.proofs.Sum.{sum_ℤ_zero}
use Rattle.net_graph.specs.Graph.{Graph, IsNetwork, negative_arc_capacity}
use Rattle.net_graph.proofs.Points.{lt_no}
use Rattle.net_solve.specs.Promise.{initial_flow}

pub no_gains : (g : Graph) → ((a : ℕ) → a < g.arcs → pos 0 ≤ℤ g.cost a) → (sum_ℤ g.arcs (negative_arc_capacity g) ≡ pos 0) × (IsNetwork g → (a : ℕ) → a < g.arcs → initial_flow g a ≡ pos 0)
no_gains g cheap = (
  sum_ℤ_zero g.arcs (negative_arc_capacity g) (λ a l. cond-false (lt_z (g.cost a) (pos 0)) (g.limit a) (pos 0) (dear a l)),
  λ w a l. cond-false (lt_z (g.cost a) (pos 0)) (g.limit a) (cond (lt_z (g.cost (g.pair a)) (pos 0)) (neg_ℤ (g.limit (g.pair a))) (pos 0)) (dear a l) ∙ cond-false (lt_z (g.cost (g.pair a)) (pos 0)) (neg_ℤ (g.limit (g.pair a))) (pos 0) (dear (g.pair a) (w.arc a l).pair),
)
  where
    dear : (a : ℕ) → a < g.arcs → lt_z (g.cost a) (pos 0) ≡ false
    dear a l = lt_no (g.cost a) (pos 0) (cheap a l)
