use Rattle.std.proofs.Common.{rules}
use Rattle.net_graph.specs.Network.{graph}
use Rattle.net_graph.specs.Sound.{state}
use Rattle.net_graph.proofs.Points.{within_arcs, tail_is}
use Rattle.net_search.specs.Tree.{tree}
use Rattle.net_search.proofs.Reach.{scanned}
use Rattle.net_search.proofs.search.Search.scan.Goals as goal

pub relax-requires-clause-arc : goal.relax-requires-clause-arc
relax-requires-clause-arc c =
    let net = c.args.flow.now.net in
    within_arcs (graph net) net.formed.laws c.args.u c.loop-a.a c.requires.hand.node c.loop-a-test.true

pub relax-requires-clause-searching : goal.relax-requires-clause-searching
relax-requires-clause-searching c =
    let net = c.args.flow.now.net in
    rw (tail_is (graph net) net.formed.laws c.args.u c.loop-a.a c.requires.hand.node c.loop-a.auto.a c.loop-a-test.true) c.loop-a.invariant.searching

pub relax-requires-clause-hand : goal.relax-requires-clause-hand
relax-requires-clause-hand c =
    let net = c.args.flow.now.net in
    rw (tail_is (graph net) net.formed.laws c.args.u c.loop-a.a c.requires.hand.node c.loop-a.auto.a c.loop-a-test.true) c.loop-a.invariant.hand

pub loop-a-preserved : goal.loop-a-preserved
loop-a-preserved c =
    let net = c.args.flow.now.net in
    let tail = tail_is (graph net) net.formed.laws c.args.u c.loop-a.a c.requires.hand.node c.loop-a.auto.a c.loop-a-test.true in
    record {
      slices = search rules;
      searching = rw tail at c.relax.ensures.searching;
      hand = rw tail at c.relax.ensures.hand;
      reached = search rules;
      source = search rules;
      radius = search rules;
    }

pub returns-clause-searching : goal.returns-clause-searching
returns-clause-searching c =
    let net = c.args.flow.now.net in
    scanned (graph net) net.formed.laws (state c.args.flow.now) c.args.u c.loop-a.a (tree c.loop-a.self) c.loop-a.invariant.searching c.loop-a-test.false
