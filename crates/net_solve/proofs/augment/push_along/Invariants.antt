use Rattle.std.proofs.Common.{◌≡◌, ℕ}
use Rattle.net_graph.specs.Network.{graph}
use Rattle.net_graph.specs.Sound.{state}
use Rattle.net_search.specs.Tree.{tree}
use Rattle.net_search.specs.Path.{Walking}
use Rattle.net_solve.specs.Promise.{SameFlow}
use Rattle.net_solve.proofs.augment.push_along.Given as goal

abbrev pub invariant-loop-a : goal.invariant-loop-a
invariant-loop-a l = record {
  net : l.a-iterator.net ≡ l.initial.flow.net;
  search : l.a-iterator.search.now ≡ l.search;
  same : SameFlow l.initial.flow l.flow;
  walked : Walking (graph l.initial.flow.net) (state l.initial.flow) (state l.flow) (tree l.search) l.a-iterator.at l.amount;
  potential : (u : ℕ) → (state l.flow).potential u ≡ (state l.initial.flow).potential u;
}
