use Rattle.phase_turns.proofs.Following.{Following}
use Rattle.phase_turns.proofs.follow.follow_row.Given as goal

abbrev pub invariant-loop-x : goal.invariant-loop-x
invariant-loop-x l = Following l.start l.steps l.row l.x l.at
