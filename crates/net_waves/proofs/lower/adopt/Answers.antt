use Rattle.std.proofs.Common.{refl, arith, rules}
use Rattle.net_waves.specs.Potentials.{distance_of}
use Rattle.net_waves.proofs.Keep.{kept_potentials}
use Rattle.net_waves.proofs.lower.adopt.Goals as goal

pub returns-clause-kept : goal.returns-clause-kept
returns-clause-kept c =
    let f = c.args.flow.now in
    kept_potentials f _ c.requires.sound (record { net = refl; flow = refl; nodes = refl }) refl c.write_potentials.ensures.excess (distance_of c.args.heights.now)
    (λ v h. c.write_potentials.ensures.potential v (omega (arith, h, f.nodes_len))) (c.fit_nodes.ensures (search rules)) (c.fit_arcs.ensures (search rules))
