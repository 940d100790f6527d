use Rattle.std.proofs.Common.{arith}
use Rattle.std.proofs.lemmas.Int.{ints}
use Rattle.net_graph.specs.Network.{graph}
use Rattle.net_graph.specs.Sound.{state}
use Rattle.net_search.proofs.PathPush.{flow_small}
use Rattle.net_waves.proofs.levels.tight_at.Goals as goal

pub overflow_add-bends : goal.overflow_add-bends
overflow_add-bends c =
    let N = c.args.flow.now.net.formed.laws in let A = N.arc c.args.a c.requires.arc in
    omega (arith, ints, A.cheap, (N.arc _ A.pair).cheap)

pub overflow_sub-rest : goal.overflow_sub-rest
overflow_sub-rest c =
    let N = c.args.flow.now.net.formed.laws in
    omega (arith, ints, flow_small (graph c.args.flow.now.net) N (state c.args.flow.now).flow c.requires.sound.flows c.args.a c.requires.arc)

pub overflow_sub-rest-else-x-lt0 : goal.overflow_sub-rest-else-x-lt0
overflow_sub-rest-else-x-lt0 c =
    let N = c.args.flow.now.net.formed.laws in let A = N.arc c.args.a c.requires.arc in
    omega (arith, ints, flow_small (graph c.args.flow.now.net) N (state c.args.flow.now).flow c.requires.sound.flows c.args.a c.requires.arc, A.allowed, A.limited)
