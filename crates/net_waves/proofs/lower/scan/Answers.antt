use Rattle.net_graph.specs.Network.{graph}
use Rattle.net_graph.proofs.Points.{within_arcs}
use Rattle.net_waves.proofs.lower.scan.Goals as goal

pub relax-requires-clause-arc : goal.relax-requires-clause-arc
relax-requires-clause-arc c =
    let net = c.args.flow.now.net in
    within_arcs (graph net) net.formed.laws c.args.v c.loop-b.b c.requires.node c.loop-b-test.true
