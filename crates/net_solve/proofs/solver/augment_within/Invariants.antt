use Rattle.net_solve.specs.Inner.{Progress}
use Rattle.net_solve.proofs.solver.augment_within.Given as goal

abbrev pub invariant-loop-first : goal.invariant-loop-first
invariant-loop-first l = Progress l.fn.flow l.fn.search l.flow l.search
