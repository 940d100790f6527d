use Rattle.std.proofs.Common.{◌≡◌, ℕ, ◌<◌, pos}
use Rattle.net_graph.specs.Node.{excess_of, potential_of}
use Rattle.net_solve.proofs.initial.clear_potentials.Given as goal

abbrev pub invariant-loop-node : goal.invariant-loop-node
invariant-loop-node l = ((v : ℕ) → v < l.node-index → potential_of l.nodes v ≡ pos 0) × ((v : ℕ) → excess_of l.nodes v ≡ excess_of l.initial.nodes v)
