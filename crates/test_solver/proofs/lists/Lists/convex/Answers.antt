use Rattle.std.proofs.Common.{rules, arith}
use Rattle.std.proofs.lemmas.Int.{ints}
use Rattle.test_solver.proofs.lists.Lists.convex.Goals as goal

pub returns-then-arc : goal.returns-then-arc
returns-then-arc c = (λ e. record { cheap = search rules; allowed = search rules; limited = search rules; convex = omega (arith, ints, e) }, λ p. grind (arith, ints))
