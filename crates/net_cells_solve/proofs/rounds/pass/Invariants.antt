use Rattle.std.proofs.Common.{◌≡◌, ℕ, ◌<◌, length, pos, ◌≤ℤ◌, slice_index}
use Rattle.net_cells.specs.Fenced.{Fenced}
use Rattle.net_cells.specs.Lists.{excess_in}
use Rattle.net_cells.specs.Sound.{Sound, Later}
use Rattle.net_cells_search.specs.Marks.{far, Blank}
use Rattle.net_cells_search.specs.Room.{RoomFor}
use Rattle.net_cells_solve.proofs.rounds.pass.Given as goal

abbrev pub invariant-loop-k : goal.invariant-loop-k
invariant-loop-k l = record {
  fenced : Fenced l.cells l.costs l.side;
  sound : Sound l.cells l.flows l.costs l.side;
  room : RoomFor (length l.cells) l.room;
  blank : Blank l.room.marks.now;
  later : Later l.initial.cells l.cells l.initial.flows l.flows l.initial.costs l.costs l.side;
  everywhere : l.within ≡ far → (j : ℕ) → j < l.k → excess_in l.cells l.side (slice_index l.list j) ≤ℤ pos 0;
}
