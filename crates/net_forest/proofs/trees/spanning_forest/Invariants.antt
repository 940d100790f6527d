use Rattle.std.proofs.Common.{ℕ, ◌<◌}
use Rattle.net_graph.specs.Network.{graph}
use Rattle.net_forest.specs.Forest.{root_of, place_of, Grows, Closed}
use Rattle.net_forest.proofs.trees.spanning_forest.Given as goal

abbrev pub invariant-loop-v : goal.invariant-loop-v
invariant-loop-v l = record {
  grows : Grows (graph l.net) l.tree_nodes l.order l.found;
  before : (u : ℕ) → u < l.v → place_of l.tree_nodes u < l.found;
  closed : Closed (graph l.net) (root_of l.tree_nodes) (place_of l.tree_nodes) l.found l.found;
}
