use Rattle.phase_turns.proofs.Adding.{SoFar}
use Rattle.phase_turns.proofs.Costing.{paid}
use Rattle.phase_turns.proofs.cost.line_cost.Given as goal

abbrev pub invariant-loop-x : goal.invariant-loop-x
invariant-loop-x l = SoFar (λ x. paid l.prices l.expected l.from l.to x x x x) 2105345000 l.x l.cost
