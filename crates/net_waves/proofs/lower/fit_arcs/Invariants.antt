use Rattle.std.proofs.Common.{ℕ, ◌<◌}
use Rattle.net_graph.specs.Network.{graph}
use Rattle.net_graph.specs.Sound.{state}
use Rattle.net_waves.specs.Potentials.{distance_of, FitsArc}
use Rattle.net_waves.proofs.lower.fit_arcs.Given as goal

abbrev pub invariant-loop-a : goal.invariant-loop-a
invariant-loop-a l = (a : ℕ) → a < l.a → FitsArc (graph l.flow.net) (state l.flow) (distance_of l.heights) a
