use Rattle.phase_turns.proofs.Adding.{SoFar}
use Rattle.phase_turns.proofs.Costing.{row_paid}
use Rattle.phase_turns.proofs.cost.way_cost.Given as goal

abbrev pub invariant-loop-y : goal.invariant-loop-y
invariant-loop-y l = SoFar (row_paid l.wide l.way.columns l.way.ahead l.way.prices.now l.way.expected.now l.room) 134742080000 l.y l.cost
