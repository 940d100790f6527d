use Rattle.std.proofs.Common.{◌≡◌, inl, inr, arith, rules, ◌∙◌}
use Rattle.std.proofs.lemmas.Int.{ints}
use Rattle.net_graph.specs.Network.{graph}
use Rattle.net_graph.specs.Sound.{state}
use Rattle.net_search.specs.Tree.{tree}
use Rattle.net_search.proofs.PathPush.{excess_small, flow_small}
use Rattle.net_solve.proofs.Bottleneck.{least_begins, least_on, least_step, least_all}
use Rattle.net_solve.proofs.augment.bottleneck.Goals as goal

pub overflow_sub-flow : goal.overflow_sub-flow
overflow_sub-flow c =
    let net = c.args.flow.now.net in
    omega (arith, ints, c.requires.sound.few, excess_small (graph net) (state c.args.flow.now) c.requires.sound c.args.search.now.target c.requires.found.target)

pub loop-a-init : goal.loop-a-init
loop-a-init c =
    let net = c.args.flow.now.net in let s = state c.args.flow.now in let t = tree c.args.search.now in
    let few = c.requires.sound.few in
    let at_source = excess_small (graph net) s c.requires.sound t.source c.requires.found.source in
    let at_target = excess_small (graph net) s c.requires.sound t.target c.requires.found.target in
    let M = c.lesser-least.ensures in
    let here : c.into_iter-a-iterator.result.at ≡ t.target = search rules in
    record {
      net = search rules;
      search = search rules;
      least = rw here (least_begins (graph net) net.formed.laws s t c.requires.found _ (omega (arith, ints, c.requires.excess))
          (omega (arith, ints, M.first, few, at_source, at_target)) (omega (arith, ints, M.second, few, at_source, at_target))
          (elim M.either [ inl e ↦ inl (omega (arith, ints, e, few, at_source, at_target)) | inr e ↦ inr (omega (arith, ints, e, few, at_source, at_target)) ]));
    }

pub residual_capacity-requires-clause-arc : goal.residual_capacity-requires-clause-arc
residual_capacity-requires-clause-arc c =
    let net = c.args.flow.now.net in let I = c.loop-a.invariant in
    let G = rw I.search at c.in-Some.ensures.steps.back in
    rw G.arc (least_step (graph net) net.formed.laws (state c.args.flow.now) (tree c.args.search.now) c.requires.found _ _ I.least G.more).arc

pub residual_capacity-requires-clause-small : goal.residual_capacity-requires-clause-small
residual_capacity-requires-clause-small c =
    let net = c.args.flow.now.net in
    flow_small (graph net) net.formed.laws (state c.args.flow.now).flow c.requires.sound.flows c.in-Some.a (residual_capacity-requires-clause-arc c)

pub loop-a-preserved : goal.loop-a-preserved
loop-a-preserved c =
    let net = c.args.flow.now.net in let I = c.loop-a.invariant in let M = c.lesser-least-in-loop-a.ensures in
    let S = c.in-Some.ensures.steps in let B = rw I.search at S.back in let B = rw I.net at B in
    let room = rw B.arc at c.residual_capacity.ensures in
    record {
      net = S.net ∙ I.net;
      search = S.search ∙ I.search;
      least = rw B.tail (rw B.arc (least_on (graph net) net.formed.laws (state c.args.flow.now) (tree c.args.search.now) c.requires.found _ _ I.least B.more _
          (omega (arith, ints, M.first, c.loop-a.least-is))
          (omega (arith, ints, M.second, room))
          (elim M.either [ inl e ↦ inl (omega (arith, ints, e, c.loop-a.least-is)) | inr e ↦ inr (omega (arith, ints, e, room)) ])));
    }

pub returns-clause-arcs : goal.returns-clause-arcs
returns-clause-arcs c =
    let net = c.args.flow.now.net in let I = c.loop-a.invariant in
    λ u k n. least_all (graph net) net.formed.laws (state c.args.flow.now) (tree c.args.search.now) c.requires.found _ _ I.least (rw I.search at c.in-None.ensures.steps.ended) u k n
