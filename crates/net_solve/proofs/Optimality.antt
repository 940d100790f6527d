-- What the answers mean.
use Rattle.std.proofs.Common.{◌≡◌, ℕ, ◌<◌, ltb, ℤ, arith, Result, Ok, Err}
use Rattle.std.proofs.lemmas.Int.{ints}
use Rattle.std.proofs.lemmas.Bool.{ltb-true, ltb-false, lt-ltb}
use Rattle.net_graph.specs.Graph.{Graph, IsNetwork, IsPseudoflow, IsReducedCostOptimal}
use Rattle.net_graph.specs.Sound.{State, supply}
use Rattle.net_theory.specs.Theorems.{IsInfeasibleCut}
use Rattle.net_theory.proofs.Crossing.{full_infeasible, joined_never_full}
use Rattle.net_theory.proofs.Cheapest.{priced_cheapest}
use Rattle.net_solve.specs.declared.infeasible.Infeasible.{Infeasible}
use Rattle.net_solve.specs.Promise.{IsPlacedCut, Outcome, IsSolution, IsOptimal, AlwaysFeasible}

is_full : (g : Graph) (e : ℕ → ℤ) (s : State) (place : ℕ → ℕ) (k : ℕ) → ((v : ℕ) → v < g.nodes → supply g s v ≡ e v) → IsPlacedCut g s place k → IsInfeasibleCut g e s.flow (λ v. ltb (place v) k)
is_full g e s place k supplies o =
    record {
      closed = λ a h p q. o.closed a h (ltb-true (place (g.tail a)) k p) (ltb-false (place (g.head a)) k q);
      no_deficit = λ v h p. omega (arith, ints, supplies v h, o.no_deficit v h (ltb-true (place v) k p));
      some = (
        o.some.0,
        o.some.1,
        lt-ltb (place o.some.0) k o.some.2,
        omega (arith, ints, supplies o.some.0 o.some.1, o.some.3),
      );
    }

-- a priced flow that meets the supplies, or a set that has more than can leave it
pub means : (g : Graph) (w : IsNetwork g) (e : ℕ → ℤ) (s : State) (place : ℕ → ℕ) (r : Result (Unit {0}) Infeasible) → IsPseudoflow g s.flow → IsReducedCostOptimal g s.flow s.potential → ((v : ℕ) → v < g.nodes → supply g s v ≡ e v) → Outcome g s place r → IsOptimal g e s.flow r
means g w e s place (Ok _) flows priced supplies none = (
  λ v h. omega (arith, ints, supplies v h, none v h),
  λ y f m. priced_cheapest g w e s.flow s.potential flows (λ v h. omega (arith, ints, supplies v h, none v h)) priced y f m,
)
means g w e s place (Err k) flows priced supplies full = λ y f m. full_infeasible g w e s.flow flows (λ v. ltb (place v) k.nodes) (is_full g e s place k.nodes supplies full) y f m

pub meaning : (g : Graph) (w : IsNetwork g) (e : ℕ → ℤ) (s : State) (place : ℕ → ℕ) (r : Result (Unit {0}) Infeasible) → IsSolution g e s place r → IsOptimal g e s.flow r
meaning g w e s place r o = means g w e s place r o.flows o.priced o.supplies o.answer

pub never : AlwaysFeasible
never g w e even joined s place k flows supplies cut = joined_never_full g w e s.flow flows even joined (λ v. ltb (place v) k.nodes) (is_full g e s place k.nodes supplies cut)
