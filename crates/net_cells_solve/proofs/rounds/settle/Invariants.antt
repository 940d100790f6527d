use Rattle.std.proofs.Common.{◌-◌, ◌^◌, ◌≤◌, length, nat_abs, pos, ◌≤ℤ◌}
use Rattle.net_cells.specs.Fenced.{Fenced}
use Rattle.net_cells.specs.Sound.{Sound, Later}
use Rattle.net_cells_search.specs.Marks.{far, Blank}
use Rattle.net_cells_search.specs.Room.{RoomFor}
use Rattle.net_cells_solve.specs.Listing.{Listing, ahead}
use Rattle.net_cells_solve.proofs.rounds.settle.Given as goal

abbrev pub invariant-loop-within : goal.invariant-loop-within
invariant-loop-within l = record {
  fenced : Fenced l.cells l.costs (ahead l.stride);
  sound : Sound l.cells l.flows l.costs (ahead l.stride);
  room : RoomFor (length l.cells) l.room;
  blank : Blank l.room.marks.now;
  later : Later l.initial.cells l.cells l.initial.flows l.flows l.initial.costs l.costs (ahead l.stride);
  few : l.count ≤ length l.list;
  listing : Listing l.cells l.list l.count;
  some : pos 0 ≤ℤ l.within;
}

abbrev pub decreases-loop-within : goal.decreases-loop-within
decreases-loop-within l = 2 ^ 30 - nat_abs l.within
