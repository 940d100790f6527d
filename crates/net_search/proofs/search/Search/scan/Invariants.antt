use Rattle.std.proofs.Common.{◌≡◌}
use Rattle.net_graph.specs.Network.{graph}
use Rattle.net_graph.specs.Sound.{state}
use Rattle.net_search.specs.Tree.{tree, SameSlices}
use Rattle.net_search.specs.Inner.{Searching, InHand}
use Rattle.net_search.proofs.search.Search.scan.Given as goal

abbrev pub invariant-loop-a : goal.invariant-loop-a
invariant-loop-a l = record {
  slices : SameSlices l.initial.self l.self;
  searching : Searching (graph l.flow.net) (state l.flow) l.u l.a (tree l.self);
  hand : InHand (graph l.flow.net).nodes (tree l.self) l.u;
  reached : l.self.reached ≡ l.initial.self.reached;
  source : l.self.source ≡ l.initial.self.source;
  radius : l.self.radius ≡ l.initial.self.radius;
}
