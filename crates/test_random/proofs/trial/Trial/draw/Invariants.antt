use Rattle.test_random.specs.Drawn.{IsDrawn}
use Rattle.test_random.proofs.trial.Trial.draw.Given as goal

abbrev pub invariant-loop : goal.invariant-loop
invariant-loop l = IsDrawn l.trial
