use Rattle.std.proofs.Common.{ap, arith}
use Rattle.net_graph.specs.Network.{graph}
use Rattle.net_graph.proofs.Points.{within_arcs, tail_is}
use Rattle.net_forest.specs.Forest.{place_of}
use Rattle.net_forest.proofs.Growing.{still_found, kept_more, together, scanned_on, scanned_closed, scanned_single}
use Rattle.net_forest.proofs.trees.scan.Goals as goal

pub reach-requires-clause-arc : goal.reach-requires-clause-arc
reach-requires-clause-arc c =
    let net = c.args.net in within_arcs (graph net) net.formed.laws c.args.u c.loop-a.a c.requires.node c.loop-a-test.true

pub reach-requires-clause-tail : goal.reach-requires-clause-tail
reach-requires-clause-tail c =
    let net = c.args.net in
    let I = c.loop-a.invariant in
    omega (
      arith,
      ap (place_of c.loop-a.tree_nodes) (tail_is (graph net) net.formed.laws c.args.u c.loop-a.a c.requires.node c.loop-a.auto.a c.loop-a-test.true),
      still_found (graph net) c.args.tree_nodes.now c.loop-a.tree_nodes c.args.order.now c.loop-a.order c.args.found.now c.loop-a.found c.requires.grows I.grows I.kept c.args.u c.requires.node c.requires.was_found,
      c.requires.was_found,
      I.kept.more,
    )

pub reach-requires-clause-together : goal.reach-requires-clause-together
reach-requires-clause-together c =
    let net = c.args.net in
    let I = c.loop-a.invariant in
    together (graph net) net.formed.laws c.args.tree_nodes.now c.loop-a.tree_nodes c.loop-a.tree_nodes c.args.order.now c.loop-a.order c.loop-a.order c.args.found.now c.loop-a.found c.loop-a.found c.args.u
    c.requires.grows I.grows I.kept c.requires.node c.requires.was_found c.requires.closed c.requires.single c.loop-a.a
    (within_arcs (graph net) net.formed.laws c.args.u c.loop-a.a c.requires.node c.loop-a-test.true) (tail_is (graph net) net.formed.laws c.args.u c.loop-a.a c.requires.node c.loop-a.auto.a c.loop-a-test.true) I.scanning.single

pub loop-a-preserved : goal.loop-a-preserved
loop-a-preserved c =
    let net = c.args.net in
    let I = c.loop-a.invariant in
    let R = c.reach.ensures in
    record {
      grows = R.grows;
      kept = kept_more (graph net) c.args.tree_nodes.now c.loop-a.tree_nodes c.reach.new.tree_nodes c.args.order.now c.loop-a.order c.reach.new.order c.args.found.now c.loop-a.found c.reach.new.found c.requires.grows I.grows I.kept R.kept;
      scanning = scanned_on (graph net) net.formed.laws c.args.tree_nodes.now c.loop-a.tree_nodes c.reach.new.tree_nodes c.args.order.now c.loop-a.order c.reach.new.order c.args.found.now c.loop-a.found c.reach.new.found c.args.u
          c.requires.grows I.grows I.kept c.requires.node c.requires.was_found c.requires.closed c.requires.single c.loop-a.a
          (within_arcs (graph net) net.formed.laws c.args.u c.loop-a.a c.requires.node c.loop-a-test.true) (tail_is (graph net) net.formed.laws c.args.u c.loop-a.a c.requires.node c.loop-a.auto.a c.loop-a-test.true)
          I.scanning R.grows R.kept R.single R.within;
    }

pub returns-clause-closed : goal.returns-clause-closed
returns-clause-closed c =
    let net = c.args.net in
    let I = c.loop-a.invariant in
    scanned_closed (graph net) net.formed.laws c.args.tree_nodes.now c.loop-a.tree_nodes c.loop-a.tree_nodes c.args.order.now c.loop-a.order c.loop-a.order c.args.found.now c.loop-a.found c.loop-a.found c.args.u
    c.requires.grows I.grows I.kept c.requires.node c.requires.was_found c.requires.closed c.requires.single c.loop-a.a c.loop-a-test.false I.scanning

pub returns-clause-single : goal.returns-clause-single
returns-clause-single c =
    let net = c.args.net in
    let I = c.loop-a.invariant in
    scanned_single (graph net) net.formed.laws c.args.tree_nodes.now c.loop-a.tree_nodes c.loop-a.tree_nodes c.args.order.now c.loop-a.order c.loop-a.order c.args.found.now c.loop-a.found c.loop-a.found c.args.u
    c.requires.grows I.grows I.kept c.requires.node c.requires.was_found c.requires.closed c.requires.single c.loop-a.a I.scanning
