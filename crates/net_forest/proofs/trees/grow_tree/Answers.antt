use Rattle.std.proofs.Common.{◌≡◌, inl, arith, refl, ap, sym, ◌∙◌}
use Rattle.net_graph.specs.Network.{graph}
use Rattle.net_graph.specs.Order.{node_at}
use Rattle.net_forest.specs.Forest.{root_of, place_of, no_tree_node}
use Rattle.net_forest.specs.declared.tree_node.TreeNode.{TreeNode}
use Rattle.net_forest.proofs.Growing.{unfound_left, added_grows, added_kept, single_added, closed_kept, kept_more, still_found}
use Rattle.net_forest.proofs.trees.grow_tree.Goals as goal

pub add-requires-clause-lengths : goal.add-requires-clause-lengths
add-requires-clause-lengths c =
    let net = c.args.net in
    omega (arith, c.requires.order, unfound_left (graph net) _ _ _ _ c.args.found.now c.requires.grows c.args.v c.requires.node (omega (arith, c.if-tree_nodes-v.false)))

pub loop-done-init : goal.loop-done-init
loop-done-init c =
    let net = c.args.net in
    let A = c.add.ensures in
    let grows = added_grows (graph net) net.formed.laws c.args.tree_nodes.now c.add.new.tree_nodes c.args.order.now c.add.new.order c.args.found.now c.add.new.found c.args.v _ c.requires.grows
    c.requires.node (omega (arith, c.if-tree_nodes-v.false)) refl (inl refl) A in
    let kept = added_kept (graph net) c.args.tree_nodes.now c.add.new.tree_nodes c.args.order.now c.add.new.order c.args.found.now c.add.new.found c.args.v _ (omega (arith, c.if-tree_nodes-v.false)) A in
    record {
      grows = grows;
      kept = kept;
      done = omega (arith, A.more);
      this = omega (arith, ap (λ (b : TreeNode). b.place) (A.here no_tree_node), A.more);
      closed = closed_kept (graph net) net.formed.laws c.args.tree_nodes.now c.add.new.tree_nodes c.args.order.now c.add.new.order c.args.found.now c.add.new.found c.requires.grows grows kept c.requires.closed;
      single = single_added (graph net) c.args.tree_nodes.now c.add.new.tree_nodes c.args.order.now c.add.new.order c.args.found.now c.add.new.found c.args.v _ grows A;
    }

pub scan-requires-clause-closed : goal.scan-requires-clause-closed
scan-requires-clause-closed c =
    let I = c.loop-done.invariant in
    rw (sym (I.grows.back c.loop-done.done c.loop-done-test.true)) at I.closed

pub scan-requires-clause-single : goal.scan-requires-clause-single
scan-requires-clause-single c =
    let I = c.loop-done.invariant in
    let k = c.loop-done.done in
    let at = I.grows.back k c.loop-done-test.true in
    λ v h p q. I.single v h (omega (arith, p, at)) q ∙ sym (I.single (node_at c.loop-done.order k) (I.grows.ordered k c.loop-done-test.true) (omega (arith, at)) (omega (arith, at, c.loop-done-test.true)))

pub loop-done-preserved : goal.loop-done-preserved
loop-done-preserved c =
    let g = graph c.args.net in
    let S = c.scan.ensures in
    let I = c.loop-done.invariant in
    let k = c.loop-done.done in
    let u = node_at c.loop-done.order k in
    let at : place_of c.loop-done.tree_nodes u ≡ k = I.grows.back k c.loop-done-test.true in
    let root : root_of c.loop-done.tree_nodes u ≡ c.args.v = I.single u (I.grows.ordered k c.loop-done-test.true) (omega (arith, at)) (omega (arith, at, c.loop-done-test.true)) in
    record {
      grows = S.grows;
      kept = kept_more g c.args.tree_nodes.now c.loop-done.tree_nodes c.scan.new.tree_nodes c.args.order.now c.loop-done.order c.scan.new.order c.args.found.now c.loop-done.found c.scan.new.found c.requires.grows I.grows I.kept S.kept;
      done = omega (arith, c.loop-done-test.true, S.kept.more);
      this = omega (arith, still_found g c.loop-done.tree_nodes c.scan.new.tree_nodes c.loop-done.order c.scan.new.order c.loop-done.found c.scan.new.found I.grows S.grows S.kept c.args.v c.requires.node I.this, I.this, S.kept.more);
      closed = λ a l p. S.closed a l (omega (arith, p, at));
      single = λ v h p q. S.single v h (omega (arith, p, at)) q ∙ root;
    }

pub returns-clause-closed : goal.returns-clause-closed
returns-clause-closed c =
    let I = c.loop-done.invariant in
    λ a l p. I.closed a l (omega (arith, p, c.loop-done-test.false))
