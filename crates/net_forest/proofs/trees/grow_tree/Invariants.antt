use Rattle.std.proofs.Common.{◌-◌, ◌<◌, ◌≤◌}
use Rattle.net_graph.specs.Network.{graph}
use Rattle.net_forest.specs.Forest.{root_of, place_of, Grows, Kept, Closed, Single}
use Rattle.net_forest.proofs.trees.grow_tree.Given as goal

abbrev pub invariant-loop-done : goal.invariant-loop-done
invariant-loop-done l = record {
  grows : Grows (graph l.net) l.tree_nodes l.order l.found;
  kept : Kept (graph l.net) l.fn.tree_nodes l.tree_nodes l.fn.order l.order l.fn.found l.found;
  done : l.done ≤ l.found;
  this : place_of l.tree_nodes l.v < l.found;
  closed : Closed (graph l.net) (root_of l.tree_nodes) (place_of l.tree_nodes) l.found l.done;
  single : Single (graph l.net) (root_of l.tree_nodes) (place_of l.tree_nodes) l.found l.done l.v;
}

abbrev pub decreases-loop-done : goal.decreases-loop-done
decreases-loop-done l = (graph l.net).nodes - l.done
