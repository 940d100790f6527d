use Rattle.std.proofs.Common.{arith, rules}
use Rattle.std.proofs.lemmas.Int.{ints}
use Rattle.net_waves.proofs.lower.fits_arc.Goals as goal

pub is_priced-requires-clause-tail : goal.is_priced-requires-clause-tail
is_priced-requires-clause-tail c =
    let N = c.args.flow.now.net.formed.laws in let A = N.arc c.args.a c.requires.arc in
    omega (arith, ints, N.few_nodes, (c.requires.nodes _ A.tail).bounded)

pub returns-else-not-open : goal.returns-else-not-open
returns-else-not-open c =
    let N = c.args.flow.now.net.formed.laws in let A = N.arc c.args.a c.requires.arc in
    let T = (c.requires.nodes _ A.tail).bounded in let H = (c.requires.nodes _ A.head).bounded in
    let U = c.unit_cost-cost.ensures in let P = c.is_priced.ensures in (
      λ t _. omega (arith, ints, P.0 t, U.value, U.small, T, H, N.few_nodes),
      λ h. P.1 (omega (arith, ints, h (search rules), U.value, U.small, T, H, N.few_nodes)),
    )
