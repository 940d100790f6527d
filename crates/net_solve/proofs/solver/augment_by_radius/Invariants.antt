use Rattle.net_solve.specs.Inner.{Progress}
use Rattle.net_solve.proofs.solver.augment_by_radius.Given as goal

abbrev pub invariant-loop-radius : goal.invariant-loop-radius
invariant-loop-radius l = Progress l.fn.flow l.fn.search l.flow l.search
