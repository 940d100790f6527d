use Rattle.phase_turns.proofs.Following.{RowsFollowed}
use Rattle.phase_turns.proofs.follow.follow.Given as goal

abbrev pub invariant-loop-y : goal.invariant-loop-y
invariant-loop-y l = RowsFollowed l.wide l.right l.below l.room l.y l.start
