use Rattle.std.proofs.Common.{◌≡◌, ◌-◌}
use Rattle.net_graph.specs.Network.{graph}
use Rattle.net_graph.specs.Sound.{state}
use Rattle.net_search.specs.Tree.{tree, SameSlices}
use Rattle.net_search.specs.Inner.{Searching}
use Rattle.net_search.proofs.search.Search.find.Given as goal

abbrev pub invariant-loop-u : goal.invariant-loop-u
invariant-loop-u l = record {
  slices : SameSlices l.fn.self l.self;
  searching : Searching (graph l.flow.net) (state l.flow) (graph l.flow.net).nodes 0 (tree l.self);
  source : l.self.source ≡ l.source;
  radius : l.self.radius ≡ l.radius;
}

abbrev pub decreases-loop-u : goal.decreases-loop-u
decreases-loop-u l = (graph l.flow.net).nodes - l.self.reached
