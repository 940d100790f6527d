-- What waves keep.
use Rattle.std.specs.Prelude.{◌≡◌, ℕ, ◌*◌, ◌^◌, ◌<◌, ◌≤◌, length, ℤ, Result, unsigned_abs}
use Rattle.net_graph.specs.Graph.{Graph, IsPseudoflow, IsReducedCostOptimal}
use Rattle.net_graph.specs.Network.{graph}
use Rattle.net_graph.specs.Sound.{State, Sound, supply, state}
use Rattle.net_graph.specs.declared.flow.Flow.{Flow}
use Rattle.net_solve.specs.Promise.{SameFlow, Outcome}
use Rattle.net_solve.specs.declared.infeasible.Infeasible.{Infeasible}
use Rattle.net_waves.specs.declared.slices.WaveSlices.{WaveSlices}

-- a tight for each arc, and a height and a slot for each node
pub record HasSlices (g : Graph) (w : WaveSlices) : Type 0 where
  pub tight : length w.tight.now ≡ g.arcs
  pub heights : length w.heights.now ≡ g.nodes
  pub slots : length w.slots.now ≡ g.nodes

-- each node's supply is what it was
abbrev pub SameSupplies : Graph → State → State → Type 0
SameSupplies g s t = (v : ℕ) → v < g.nodes → supply g t v ≡ supply g s v

-- from one sound state to another with the same supplies
pub record Kept (f f' : Flow) : Type 0 where
  pub same : SameFlow f f'
  pub sound : Sound (graph f.net) (state f')
  pub supplies : SameSupplies (graph f.net) (state f) (state f')

-- What waves and then the solver leave of supplies e: a pseudoflow and potentials, of at most 2 n C, that are optimal together. The supplies
-- are met, or a cut shows that no flow meets them.
pub record IsOptimum (g : Graph) (e : ℕ → ℤ) (s : State) (place : ℕ → ℕ) (r : Result (Unit {0}) Infeasible) : Type 0 where
  pub flows : IsPseudoflow g s.flow
  pub priced : IsReducedCostOptimal g s.flow s.potential
  pub bounded : (v : ℕ) → v < g.nodes → unsigned_abs (s.potential v) ≤ 2 ^ 31 * g.nodes
  pub supplies : (v : ℕ) → v < g.nodes → supply g s v ≡ e v
  pub answer : Outcome g s place r
