use Rattle.net_graph.specs.Network.{graph}
use Rattle.net_forest.specs.Forest.{Grows, Kept}
use Rattle.net_forest.proofs.Growing.{Scanning}
use Rattle.net_forest.proofs.trees.scan.Given as goal

abbrev pub invariant-loop-a : goal.invariant-loop-a
invariant-loop-a l = record {
  grows : Grows (graph l.net) l.tree_nodes l.order l.found;
  kept : Kept (graph l.net) l.fn.tree_nodes l.tree_nodes l.fn.order l.order l.fn.found l.found;
  scanning : Scanning (graph l.net) l.fn.tree_nodes l.tree_nodes l.fn.found l.found l.u l.a;
}
