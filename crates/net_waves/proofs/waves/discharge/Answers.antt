use Rattle.std.proofs.Common.{ap, arith}
use Rattle.net_graph.specs.declared.network.Network.{Network}
use Rattle.net_graph.specs.Network.{graph}
use Rattle.net_graph.proofs.Points.{within_arcs}
use Rattle.net_waves.proofs.waves.discharge.Goals as goal

pub advance-level-requires-clause-arc : goal.advance-level-requires-clause-arc
advance-level-requires-clause-arc c =
    let net = c.args.flow.now.net in
    omega (arith, within_arcs (graph net) net.formed.laws c.args.u c.loop-a.a c.requires.node c.loop-a-test.true, ap (λ (n : Network). (graph n).arcs) c.loop-a.invariant.same.net)
