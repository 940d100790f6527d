use Rattle.net_waves.specs.Promise.{Kept}
use Rattle.net_waves.proofs.waves.push_all.Given as goal

abbrev pub invariant-loop : goal.invariant-loop
invariant-loop l = Kept l.fn.flow l.flow
