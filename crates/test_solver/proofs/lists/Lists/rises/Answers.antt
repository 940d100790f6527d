use Rattle.std.proofs.Common.{rules, arith}
use Rattle.test_solver.proofs.lists.Lists.rises.Goals as goal

pub returns-else-is_sorted : goal.returns-else-is_sorted
returns-else-is_sorted c = (λ t. search rules, λ r. let b = c.if-is_sorted.ensures.by_index in absurd (grind (arith, r.rises b.0 (omega (arith, b.1)), b.2 0)))
