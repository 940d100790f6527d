use Rattle.std.proofs.Common.{◌≡◌, ◌^◌, pos, neg_ℤ, ◌≤ℤ◌}
use borrow.Author.Differences.{up}
use Rattle.sums.specs.Sum.{sum_to}
use Rattle.net_graph.specs.Node.{excess_of}
use Rattle.test_solver.proofs.supplies.balanced.Given as goal

abbrev pub invariant-loop-node : goal.invariant-loop-node
invariant-loop-node l = record {
  gives : l.gives ≡ pos (sum_to l.node-index (λ v. up (excess_of l.nodes v)));
  taken : l.taken ≡ pos (sum_to l.node-index (λ v. up (neg_ℤ (excess_of l.nodes v))));
  gives_few : l.gives ≤ℤ pos (2 ^ 59);
  taken_few : l.taken ≤ℤ pos (2 ^ 59);
}
