use Rattle.std.proofs.Common.{inl, inr, arith, rules}
use Rattle.std.proofs.lemmas.Int.{ints}
use Rattle.net_graph.specs.Network.{graph}
use Rattle.net_graph.specs.Sound.{state}
use Rattle.net_graph.proofs.Points.{residual_open}
use Rattle.net_search.proofs.PathPush.{excess_small, flow_small}
use Rattle.net_waves.proofs.Keep.{kept_push}
use Rattle.net_waves.proofs.push.push_tight.Goals as goal

pub push-requires-clause-flow : goal.push-requires-clause-flow
push-requires-clause-flow c =
    let net = c.args.flow.now.net in
    λ b h. omega (arith, flow_small (graph net) net.formed.laws (state c.args.flow.now).flow c.requires.sound.flows b h)

pub push-requires-clause-excess : goal.push-requires-clause-excess
push-requires-clause-excess c =
    let net = c.args.flow.now.net in
    λ v h. omega (arith, c.requires.sound.few, excess_small (graph net) (state c.args.flow.now) c.requires.sound v h)

pub push-requires-clause-amount : goal.push-requires-clause-amount
push-requires-clause-amount c =
    let net = c.args.flow.now.net in let A = net.formed.laws.arc c.args.a c.requires.arc in let s = state c.args.flow.now in
    let room = residual_open (graph net) s.flow c.args.a (search rules) in
    let M = c.lesser-amount.ensures in
    elim M.either [
      | inl e ↦ omega (arith, ints, e, M.first, c.if-excess-le0.false, c.requires.sound.few, excess_small (graph net) s c.requires.sound _ A.tail)
      | inr e ↦ omega (arith, ints, e, M.first, room, c.residual_capacity.ensures, c.requires.sound.few, excess_small (graph net) s c.requires.sound _ A.tail)
    ]

pub returns : goal.returns
returns c =
    let net = c.args.flow.now.net in let A = net.formed.laws.arc c.args.a c.requires.arc in let s = state c.args.flow.now in
    let room = residual_open (graph net) s.flow c.args.a (search rules) in
    let M = c.lesser-amount.ensures in
    kept_push c.args.flow.now c.push.new.self c.requires.sound c.args.a c.requires.arc _
    (elim M.either [
      | inl e ↦ omega (arith, ints, e, c.if-excess-le0.false)
      | inr e ↦ omega (arith, ints, e, room, c.residual_capacity.ensures)
    ])
    (omega (arith, ints, M.first)) (omega (arith, ints, M.second, c.residual_capacity.ensures)) (omega (arith, ints, c.if-reduced_cost-ne0.false, c.reduced_cost.ensures))
    (record { net = c.push.ensures.net; flow = c.push.ensures.same_flow; nodes = c.push.ensures.same_nodes }) c.push.ensures.pushed
