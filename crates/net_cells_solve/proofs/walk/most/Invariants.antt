use Rattle.std.proofs.Common.{length}
use Rattle.net_cells_solve.specs.Walk.{tail, depth, Most}
use Rattle.net_cells_solve.proofs.walk.most.Given as goal

abbrev pub invariant-loop-v : goal.invariant-loop-v
invariant-loop-v l = Most l.cells l.flows l.side l.room.marks.now l.source l.target l.v l.least

abbrev pub decreases-loop-v : goal.decreases-loop-v
decreases-loop-v l = depth (length l.cells) l.source (tail l.side.stride l.room.marks.now) l.v
