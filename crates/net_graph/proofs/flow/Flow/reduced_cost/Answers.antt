use Rattle.std.proofs.Common.{arith}
use Rattle.std.proofs.lemmas.Int.{ints}
use Rattle.net_graph.proofs.flow.Flow.reduced_cost.Goals as goal

pub overflow_sub-result : goal.overflow_sub-result
overflow_sub-result c =
    let N = c.args.self.now.net.formed.laws in let A = N.arc c.args.a c.requires.arc in
    omega (arith, ints, N.few_nodes, c.requires.bounded _ A.tail, c.requires.bounded _ A.head, c.unit_cost.ensures.small)

pub returns : goal.returns
returns c =
    let N = c.args.self.now.net.formed.laws in let A = N.arc c.args.a c.requires.arc in
    omega (arith, ints, N.few_nodes, c.requires.bounded _ A.tail, c.requires.bounded _ A.head, c.unit_cost.ensures.small, c.unit_cost.ensures.value)
