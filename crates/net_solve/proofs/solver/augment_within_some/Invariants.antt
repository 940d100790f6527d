use Rattle.std.proofs.Common.{◌-◌}
use Rattle.net_solve.specs.Inner.{Progress}
use Rattle.net_solve.proofs.solver.augment_within_some.Given as goal

abbrev pub invariant-loop-source : goal.invariant-loop-source
invariant-loop-source l = Progress l.fn.flow l.fn.search l.flow l.search

abbrev pub decreases-loop-source : goal.decreases-loop-source
decreases-loop-source l = l.source-end - l.source
