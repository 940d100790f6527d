use Rattle.std.proofs.Common.{◌≡◌, length}
use Rattle.net_cells.specs.Lists.{view}
use Rattle.net_cells_search.specs.Room.{Going, RoomFor, effort_of}
use Rattle.net_cells_search.proofs.room.Room.find.Given as goal

abbrev pub invariant-loop-side : goal.invariant-loop-side
invariant-loop-side l = record {
  room : RoomFor (length l.cells) l.self;
  is_source : l.self.source ≡ l.fn.source;
  is_within : l.self.within ≡ l.fn.within;
  going : Going (view l.cells l.costs l.side) 0 4 l.self;
}

abbrev pub decreases-loop-side : goal.decreases-loop-side
decreases-loop-side l = effort_of l.self
