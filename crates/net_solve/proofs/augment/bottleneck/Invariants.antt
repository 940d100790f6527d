use Rattle.std.proofs.Common.{◌≡◌}
use Rattle.net_graph.specs.Network.{graph}
use Rattle.net_graph.specs.Sound.{state}
use Rattle.net_search.specs.Tree.{tree}
use Rattle.net_solve.proofs.Bottleneck.{IsBottleneck}
use Rattle.net_solve.proofs.augment.bottleneck.Given as goal

abbrev pub invariant-loop-a : goal.invariant-loop-a
invariant-loop-a l = record {
  net : l.a-iterator.net ≡ l.flow.net;
  search : l.a-iterator.search.now ≡ l.search;
  least : IsBottleneck (graph l.flow.net) (state l.flow) (tree l.search) l.a-iterator.at l.least;
}
