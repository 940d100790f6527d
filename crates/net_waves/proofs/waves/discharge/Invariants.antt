use Rattle.net_waves.specs.Promise.{Kept}
use Rattle.net_waves.proofs.waves.discharge.Given as goal

abbrev pub invariant-loop-a : goal.invariant-loop-a
invariant-loop-a l = Kept l.fn.flow l.flow
