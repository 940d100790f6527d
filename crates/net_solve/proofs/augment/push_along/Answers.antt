use Rattle.std.proofs.Common.{◌≡◌, refl, ap, ◌∙◌, arith, rules, w64, to_z, of_z}
use Rattle.std.proofs.lemmas.Int.{ints}
use Rattle.net_graph.specs.Graph.{Graph}
use Rattle.net_graph.specs.Network.{graph}
use Rattle.net_graph.specs.Sound.{state}
use Rattle.net_search.specs.Tree.{tree}
use Rattle.net_search.proofs.PathPush.{excess_small, flow_small, walk_begins, walk_on}
use Rattle.net_solve.proofs.Bottleneck.{at_most}
use Rattle.net_solve.proofs.augment.push_along.Goals as goal

pub loop-a-init : goal.loop-a-init
loop-a-init c =
    let net = c.args.flow.now.net in
    let here : c.into_iter-a-iterator.result.at ≡ c.args.search.now.target = search rules in
    record {
      net = search rules;
      search = search rules;
      same = search rules;
      walked = rw here (walk_begins (graph net) net.formed.laws (state c.args.flow.now) c.requires.sound (tree c.args.search.now) c.requires.found _ (omega (arith, ints, c.requires.some)));
      potential = λ u. refl;
    }

pub push-requires-clause-flow : goal.push-requires-clause-flow
push-requires-clause-flow c =
    let net = c.args.flow.now.net in let I = c.loop-a.invariant in
    let as_before : graph c.loop-a.flow.net ≡ graph net = ap graph I.same.net in
    λ b h. flow_small (graph net) net.formed.laws (state c.loop-a.flow).flow I.walked.flows b (omega (arith, h, ap (λ (g : Graph). g.arcs) as_before))

pub push-requires-clause-excess : goal.push-requires-clause-excess
push-requires-clause-excess c =
    let net = c.args.flow.now.net in let I = c.loop-a.invariant in
    let as_before : graph c.loop-a.flow.net ≡ graph net = ap graph I.same.net in
    λ u h. omega (
      arith,
      ints,
      I.walked.excess u,
      excess_small (graph net) (state c.args.flow.now) c.requires.sound u (omega (arith, h, ap (λ (g : Graph). g.nodes) as_before)),
      c.requires.sound.few,
      c.requires.some,
      c.requires.few,
      at_most c.args.search.now.target u (to_z w64 (of_z w64 c.args.amount)) (omega (arith, ints, c.requires.some)),
      at_most c.loop-a.a-iterator.at u (to_z w64 (of_z w64 c.args.amount)) (omega (arith, ints, c.requires.some)),
    )

pub loop-a-preserved : goal.loop-a-preserved
loop-a-preserved c =
    let net = c.args.flow.now.net in let I = c.loop-a.invariant in let P = c.push.ensures.pushed in
    let S = c.in-Some.ensures.steps in let B = rw I.search at S.back in let B = rw I.net at B in
    let as_before : graph c.loop-a.flow.net ≡ graph net = ap graph I.same.net in
    let pushed = rw as_before at P in
    record {
      net = S.net ∙ I.net;
      search = S.search ∙ I.search;
      same = search rules;
      walked = rw B.tail (rw B.arc (walk_on (graph net) net.formed.laws (state c.args.flow.now) c.requires.sound (tree c.args.search.now) c.requires.found _ (omega (arith, ints, c.requires.some)) (λ u k n. omega (arith, ints, c.requires.arcs u k n)) (state c.loop-a.flow) (state c.push.new.self) c.loop-a.a-iterator.at I.walked B.more (rw B.arc at pushed)));
      potential = λ u. P.potential u ∙ I.potential u;
    }
