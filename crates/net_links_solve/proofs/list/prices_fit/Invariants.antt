use Rattle.std.proofs.Common.{◌≡◌, ◌^◌, ◌≤◌, pos}
use Rattle.sums.specs.Sum.{sum_to}
use Rattle.net_links_solve.specs.Link.{links_of}
use Rattle.net_links_solve.proofs.list.prices_fit.Given as goal

abbrev pub invariant-loop-edge : goal.invariant-loop-edge
invariant-loop-edge l = record {
  so_far : l.sum ≡ pos (sum_to l.edge-index (links_of l.edges).price);
  few : sum_to l.edge-index (links_of l.edges).price ≤ 2 ^ 59;
}
