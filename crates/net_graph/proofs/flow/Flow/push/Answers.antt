use Rattle.std.proofs.Common.{◌∙◌, arith}
use Rattle.std.proofs.lemmas.Int.{ints}
use Rattle.net_graph.proofs.Push.{pushed_of}
use Rattle.net_graph.proofs.flow.Flow.push.Goals as goal

pub returns-clause-pushed : goal.returns-clause-pushed
returns-clause-pushed c =
    pushed_of _ _ _ c.args.a c.args.amount _ _ (omega (arith, ints, c.requires.amount)) (omega (arith, ints, c.requires.amount))
    _ c.add.ensures c.add-2.ensures
    _ c.add_excess.ensures.given.excess c.add_excess-2.ensures.given.excess
    (λ v. c.add_excess-2.ensures.given.potential v ∙ c.add_excess.ensures.given.potential v)
