use Rattle.net_cells_search.specs.Marks.{NoneOpen}
use Rattle.net_cells_search.proofs.room.Room.left_out.Given as goal

abbrev pub invariant-loop-k : goal.invariant-loop-k
invariant-loop-k l = NoneOpen l.self.marks.now l.self.touched.now l.k l.self.bound
