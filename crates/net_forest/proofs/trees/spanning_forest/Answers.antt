use Rattle.std.proofs.Common.{arith, inl, inr, ap, rules}
use Rattle.std.proofs.lemmas.Bool.{cases_eq}
use Rattle.net_graph.specs.Network.{graph}
use Rattle.net_forest.specs.Forest.{place_of}
use Rattle.net_forest.proofs.Growing.{none_found, still_found, all_found}
use Rattle.net_forest.proofs.trees.spanning_forest.Goals as goal

pub loop-v-init : goal.loop-v-init
loop-v-init c =
    record {
      grows = none_found (graph c.args.net) _ _ (λ v l. search rules);
      before = λ u l. absurd (omega arith);
      closed = λ a l p. absurd (omega (arith, p));
    }

pub loop-v-preserved : goal.loop-v-preserved
loop-v-preserved c =
    let G = c.grow_tree.ensures in
    let I = c.loop-v.invariant in
    record {
      grows = G.grows;
      before = λ u l. elim (cases_eq u c.loop-v.v) [
        | inl e ↦ omega (arith, ap (place_of c.grow_tree.new.tree_nodes) e, G.this)
        | inr x ↦ omega (arith, still_found (graph c.args.net) c.loop-v.tree_nodes c.grow_tree.new.tree_nodes c.loop-v.order c.grow_tree.new.order c.loop-v.found c.grow_tree.new.found I.grows G.grows G.kept u (search rules) (I.before u (omega (arith, l, x))), I.before u (omega (arith, l, x)), G.kept.more)
      ];
      closed = G.closed;
    }

pub returns : goal.returns
returns c = all_found (graph c.args.net) c.args.net.formed.laws c.loop-v.tree_nodes c.loop-v.order c.loop-v.found c.loop-v.invariant.grows c.loop-v.invariant.closed (λ v l. c.loop-v.invariant.before v (omega (arith, l, c.requires.tree_nodes)))
