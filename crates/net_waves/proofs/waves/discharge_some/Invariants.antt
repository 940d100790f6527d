use Rattle.net_waves.specs.Promise.{Kept}
use Rattle.net_waves.proofs.waves.discharge_some.Given as goal

abbrev pub invariant-loop : goal.invariant-loop
invariant-loop l = Kept l.fn.flow l.flow
