use Rattle.std.proofs.Common.{ℕ, ◌<◌}
use Rattle.net_graph.specs.Network.{graph}
use Rattle.net_graph.specs.Sound.{state}
use Rattle.net_waves.specs.Potentials.{distance_of, FitsNode}
use Rattle.net_waves.proofs.lower.fit_nodes.Given as goal

abbrev pub invariant-loop-v : goal.invariant-loop-v
invariant-loop-v l = (v : ℕ) → v < l.v → FitsNode (graph l.flow.net).nodes (state l.flow) (distance_of l.heights) v
