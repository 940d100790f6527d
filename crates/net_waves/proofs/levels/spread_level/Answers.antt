use Rattle.std.proofs.Common.{arith}
use Rattle.net_graph.specs.Network.{graph}
use Rattle.net_graph.proofs.Points.{within_arcs}
use Rattle.net_waves.proofs.levels.spread_level.Goals as goal

pub raise_head-requires : goal.raise_head-requires
raise_head-requires c =
    let net = c.args.net.now in
    omega (arith, within_arcs (graph net) net.formed.laws c.args.v c.loop-b.b c.requires.node c.loop-b-test.true, c.requires.arcs)
