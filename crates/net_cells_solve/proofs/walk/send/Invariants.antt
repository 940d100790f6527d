use Rattle.std.proofs.Common.{length}
use Rattle.net_cells_solve.specs.Walk.{tail, depth, Sending}
use Rattle.net_cells_solve.proofs.walk.send.Given as goal

abbrev pub invariant-loop-v : goal.invariant-loop-v
invariant-loop-v l = Sending l.cells l.initial.flows l.flows l.initial.costs l.costs l.side l.room.marks.now l.source l.target l.v l.amount

abbrev pub decreases-loop-v : goal.decreases-loop-v
decreases-loop-v l = depth (length l.cells) l.source (tail l.side.stride l.room.marks.now) l.v
