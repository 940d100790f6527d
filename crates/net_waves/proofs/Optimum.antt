-- What waves and then the solver leave is optimal.
use Rattle.std.proofs.Common.{ℕ, ℤ, Result}
use Rattle.net_graph.specs.Graph.{Graph, IsNetwork}
use Rattle.net_graph.specs.Sound.{State}
use Rattle.net_solve.specs.Promise.{IsOptimal}
use Rattle.net_solve.specs.declared.infeasible.Infeasible.{Infeasible}
use Rattle.net_solve.proofs.Optimality.{means}
use Rattle.net_waves.specs.Promise.{IsOptimum}

pub optimum_means : (g : Graph) → IsNetwork g → (e : ℕ → ℤ) (s : State) (place : ℕ → ℕ) (r : Result (Unit {0}) Infeasible) → IsOptimum g e s place r → IsOptimal g e s.flow r
optimum_means g w e s place r o = means g w e s place r o.flows o.priced o.supplies o.answer
