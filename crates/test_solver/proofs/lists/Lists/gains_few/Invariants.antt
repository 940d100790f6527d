use Rattle.std.proofs.Common.{◌≡◌, ◌^◌, pos, ◌≤ℤ◌}
use Rattle.sums.specs.Sum.{sum_ℤ}
use Rattle.net_graph.specs.Graph.{negative_arc_capacity}
use Rattle.test_solver.specs.Lists.{graph}
use Rattle.test_solver.proofs.lists.Lists.gains_few.Given as goal

abbrev pub invariant-loop-arc : goal.invariant-loop-arc
invariant-loop-arc l = record {
  value : l.sum ≡ sum_ℤ l.arc-index (negative_arc_capacity (graph l.self));
  low : pos 0 ≤ℤ l.sum;
  high : l.sum ≤ℤ pos (2 ^ 59);
}
