use Rattle.std.proofs.Common.{◌+◌}
use Rattle.net_cells_search.specs.Room.{Unchanged}
use Rattle.net_cells_search.proofs.room.Room.advised.Given as goal

abbrev pub invariant-loop-u : goal.invariant-loop-u
invariant-loop-u l = Unchanged l.initial.self l.self

abbrev pub decreases-loop-u : goal.decreases-loop-u
decreases-loop-u l = l.self.queue.size + l.self.queue.depth
