use Rattle.std.proofs.Common.{◌≡◌, ℕ, ◌<◌, pos, get_or}
use Rattle.net_graph.specs.Node.{potential_of}
use Rattle.net_workspace.proofs.workspace.Workspace.copy_potentials.Given as goal

abbrev pub invariant-loop-v : goal.invariant-loop-v
invariant-loop-v l = record {
  done : (v : ℕ) → v < l.v → get_or l.potentials v (pos 0) ≡ potential_of l.self.nodes.now v;
}
