use Rattle.std.proofs.Common.{length}
use Rattle.net_cells.specs.Fenced.{Fenced}
use Rattle.net_cells.specs.Sound.{Sound, Later, left_in}
use Rattle.net_cells_search.specs.Marks.{Blank}
use Rattle.net_cells_search.specs.Room.{RoomFor}
use Rattle.net_cells_solve.proofs.rounds.drain.Given as goal

abbrev pub invariant-loop-side : goal.invariant-loop-side
invariant-loop-side l = record {
  fenced : Fenced l.cells l.costs l.side;
  sound : Sound l.cells l.flows l.costs l.side;
  room : RoomFor (length l.cells) l.room;
  blank : Blank l.room.marks.now;
  later : Later l.initial.cells l.cells l.initial.flows l.flows l.initial.costs l.costs l.side;
}

abbrev pub decreases-loop-side : goal.decreases-loop-side
decreases-loop-side l = left_in l.cells l.side
