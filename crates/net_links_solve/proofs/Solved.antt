-- The solver always settles the network of links, and its potentials cost least.
use Rattle.std.proofs.Common.{◌≡◌, ℕ, ◌<◌, Bool, true, false, cond, eqb, ℤ, pos, sym, refl, ◌∙◌, arith}
use Rattle.std.specs.Prelude.{Result, Ok, Err}
use Rattle.std.proofs.lemmas.Int.{ints}
use Rattle.sums.proofs.Sum.{sum_ℤ_zero}
use Rattle.net_graph.specs.Graph.{Graph, outflow}
use Rattle.net_theory.specs.Theorems.{Meets}
use Rattle.net_solve.specs.Promise.{Outcome, IsOptimal}
use Rattle.net_solve.specs.declared.infeasible.Infeasible.{Infeasible}
use Rattle.net_waves.proofs.Optimum.{optimum_means}
use Rattle.net_links_flow.proofs.Least.{optimal_is_least}
use Rattle.net_links_solve.specs.Settled.{LeavesLeast, SolvedIsLeast}

-- nothing goes anywhere: that meets supplies of nothing
same : (c : Bool) → cond c (pos 0) (pos 0) ≡ pos 0
same true = refl
same false = refl

nothing_meets : (g : Graph) (e : ℕ → ℤ) → ((v : ℕ) → v < g.nodes → e v ≡ pos 0) → Meets g (λ a. pos 0) e
unfolding outflow
nothing_meets g e none v h = sum_ℤ_zero g.arcs (λ a. cond (eqb (g.tail a) v) (pos 0) (pos 0)) (λ a k. same (eqb (g.tail a) v)) ∙ sym (none v h)

pub solved_is_least : SolvedIsLeast
solved_is_least l g arc e s place r b w none o = by r o.answer (optimum_means g w e s place r o)
  where
    by : (r : Result (Unit {0}) Infeasible) → Outcome g s place r → IsOptimal g e s.flow r → LeavesLeast l g.nodes arc s r
    by (Ok tt) out m =
        let q = optimal_is_least l g arc s.flow s.potential b w o.flows (λ v h. omega (arith, ints, o.supplies v h, out v h, none v h)) o.priced in
        record { settled = refl; least = q.0; certified = q.1 }
    by (Err k) out m = absurd (m (λ a. pos 0) (record { opposite = λ a h. refl; within = λ a h. (w.arc a h).allowed }) (nothing_meets g e none))
