use Rattle.std.proofs.Common.{◌≡◌, ◌*◌, ◌^◌, ◌≤◌}
use Rattle.sums.specs.Sum.{sum_to}
use Rattle.net_links_solve.specs.Link.{links_of, numbers_in}
use Rattle.net_links_solve.proofs.Costing.{link_costs}
use Rattle.net_links_solve.proofs.costs.cost.Given as goal

abbrev pub invariant-loop-edge : goal.invariant-loop-edge
invariant-loop-edge l = record {
  so_far : l.sum ≡ sum_to l.edge-index (link_costs (links_of l.fn.links.edges.now) (numbers_in l.fn.numbers));
  few : l.sum ≤ sum_to l.edge-index (links_of l.fn.links.edges.now).price * 2 ^ 66;
}
