use Rattle.std.proofs.Common.{◌≡◌, ℕ, ◌<◌}
use Rattle.net_graph.specs.Node.{excess_of, potential_of}
use Rattle.net_waves.specs.Potentials.{distance_of}
use Rattle.net_waves.proofs.lower.write_potentials.Given as goal

abbrev pub invariant-loop-v : goal.invariant-loop-v
invariant-loop-v l = record {
  done : (v : ℕ) → v < l.v → potential_of l.nodes v ≡ distance_of l.heights v;
  excess : (v : ℕ) → excess_of l.nodes v ≡ excess_of l.initial.nodes v;
}
