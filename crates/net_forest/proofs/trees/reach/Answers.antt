use Rattle.std.proofs.Common.{inr, arith, refl, rules}
use Rattle.net_graph.specs.Network.{graph}
use Rattle.net_forest.proofs.Growing.{unfound_left, added_grows, single_added}
use Rattle.net_forest.proofs.trees.reach.Goals as goal

pub add-requires-clause-lengths : goal.add-requires-clause-lengths
add-requires-clause-lengths c =
    let net = c.args.net in
    omega (arith, c.requires.order, unfound_left (graph net) _ _ _ _ c.args.found.now c.requires.grows ((graph net).head c.args.a) (net.formed.laws.arc c.args.a c.requires.arc).head (omega (arith, c.if-tree_nodes-arc.false)))

pub returns-clause-grows : goal.returns-clause-grows
returns-clause-grows c =
    let net = c.args.net in
    added_grows (graph net) net.formed.laws c.args.tree_nodes.now c.add.new.tree_nodes c.args.order.now c.add.new.order c.args.found.now c.add.new.found ((graph net).head c.args.a) _ c.requires.grows
    (net.formed.laws.arc c.args.a c.requires.arc).head (omega (arith, c.if-tree_nodes-arc.false)) refl
    (inr (record { arc = c.requires.arc; ends = refl; free = search rules; free_back = search rules; from = c.requires.tail; same = refl })) c.add.ensures

pub returns-clause-single : goal.returns-clause-single
returns-clause-single c =
    single_added (graph c.args.net) c.args.tree_nodes.now c.add.new.tree_nodes c.args.order.now c.add.new.order c.args.found.now c.add.new.found ((graph c.args.net).head c.args.a) _ (returns-clause-grows c) c.add.ensures
