use Rattle.std.proofs.Common.{◌≡◌, length}
use Rattle.net_cells_search.specs.Lower.{Fallen}
use Rattle.net_cells_search.proofs.room.Room.lower.Given as goal

abbrev pub invariant-loop-k : goal.invariant-loop-k
invariant-loop-k l = record {
  fallen : Fallen l.initial.self.touched.now l.k l.side l.bound l.initial.cells l.cells l.initial.self.marks.now l.self.marks.now;
  touched : l.self.touched.now ≡ l.initial.self.touched.now;
  len : length l.self.marks.now ≡ length l.initial.self.marks.now;
}
