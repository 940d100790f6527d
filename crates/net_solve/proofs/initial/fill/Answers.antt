use Rattle.std.proofs.Common.{◌≡◌, ◌<◌, length, if◌then◌else◌, nat_eq, pos, sym, ap, ◌∙◌, inl, inr, arith, rules}
use Rattle.std.proofs.lemmas.Int.{ints}
use Rattle.std.proofs.lemmas.Bool.{cases_eq}
use Rattle.std.proofs.lemmas.List.{get_or-set_same, get_or-set_other}
use Rattle.net_graph.specs.Graph.{Graph, IsArc}
use Rattle.net_graph.specs.Network.{graph}
use Rattle.net_solve.specs.Promise.{initial_flow}
use Rattle.sums.proofs.Loop.{sum_ℤ_none}
use Rattle.net_solve.proofs.InitialFlow.{taken_here, partly, started_small}
use Rattle.net_solve.proofs.initial.fill.Goals as goal

pub loop-a-init : goal.loop-a-init
loop-a-init c =
    let g = graph c.args.flow.now.net in
    record {
      same = search rules;
      flow = λ b h. absurd (omega (arith, h));
      excess = λ v h. omega (arith, ints, sum_ℤ_none (λ b. (if nat_eq (g.tail b) v then initial_flow g b else pos 0)));
    }

pub overflow_sub-flow : goal.overflow_sub-flow
overflow_sub-flow c =
    let net = c.args.flow.now.net in
    let g = graph net in
    let a = c.loop-a.a in
    let A : IsArc g a = net.formed.laws.arc a c.loop-a-test.true in
    omega (arith, ints, c.loop-a.invariant.excess (g.tail a) A.tail, c.requires (g.tail a) A.tail, partly g net.formed.laws (g.tail a) a (omega (arith, c.loop-a-test.true)), c.initial_arc_flow-x.ensures, started_small g net.formed.laws a c.loop-a-test.true)

pub loop-a-preserved : goal.loop-a-preserved
loop-a-preserved c =
    let net = c.args.flow.now.net in
    let g = graph net in
    let a = c.loop-a.a in
    let A : IsArc g a = net.formed.laws.arc a c.loop-a-test.true in
    let as_before : graph c.loop-a.flow.net ≡ g = ap graph c.loop-a.invariant.same.net in
    let own : a < length c.loop-a.flow.flow.now = omega (arith, c.loop-a-test.true, c.loop-a.flow.flow_len, ap (λ (h : Graph). h.arcs) as_before) in
    let at_tail : g.tail a < length c.loop-a.flow.nodes.now = omega (arith, A.tail, c.loop-a.flow.nodes_len, ap (λ (h : Graph). h.nodes) as_before) in
    let x : c.initial_arc_flow-x.result ≡ initial_flow g a = c.initial_arc_flow-x.ensures in
    record {
      same = search rules;
      flow = λ b h. elim (cases_eq b a) [
        | inl e ↦ rw e (get_or-set_same _ a _ (pos 0) own ∙ omega (arith, ints, x, started_small g net.formed.laws a c.loop-a-test.true))
        | inr n ↦ get_or-set_other _ a b _ (pos 0) n ∙ c.loop-a.invariant.flow b (omega (arith, h, n))
      ];
      excess = λ v h. taken_here g a v c.loop-a.flow.nodes.now _ _ (c.loop-a.invariant.excess v h) at_tail
          (omega (arith, ints, x, c.loop-a.invariant.excess (g.tail a) A.tail, c.requires (g.tail a) A.tail, partly g net.formed.laws (g.tail a) a (omega (arith, c.loop-a-test.true)), started_small g net.formed.laws a c.loop-a-test.true));
    }

pub returns-clause-excess : goal.returns-clause-excess
returns-clause-excess c =
    let e : c.loop-a.a ≡ (graph c.args.flow.now.net).arcs = omega (arith, c.loop-a-test.false, c.loop-a.auto.a-end) in
    λ v h. rw (sym e) (c.loop-a.invariant.excess v h)
