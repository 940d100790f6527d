use Rattle.std.proofs.Common.{◌≡◌, ap, ◌∙◌, arith}
use Rattle.net_graph.specs.Network.{graph}
use Rattle.net_graph.specs.declared.network.Network.{Network}
use Rattle.net_graph.specs.Sound.{state}
use Rattle.net_solve.proofs.InitialFlow.{supply_small, starts}
use Rattle.net_solve.proofs.initial.start.Goals as goal

pub fill-requires : goal.fill-requires
fill-requires c = supply_small (graph c.args.flow.now.net).nodes (state c.args.flow.now).excess c.requires

pub returns-clause-initial : goal.returns-clause-initial
returns-clause-initial c =
    let net = c.args.flow.now.net in
    let length_first : (graph c.fill.new.flow.net).nodes ≡ (graph net).nodes = ap (λ (n : Network). (graph n).nodes) c.fill.ensures.same.net in
    starts (graph net) net.formed.laws (state c.args.flow.now).excess _ c.fill.ensures.flow (λ v h. c.clear_potentials.ensures.potential v (omega (arith, h, c.clear_potentials.auto.nodes, c.fill.new.flow.nodes_len, length_first))) (λ v h. c.clear_potentials.ensures.excess v ∙ c.fill.ensures.excess v h) c.requires.even c.requires.few
