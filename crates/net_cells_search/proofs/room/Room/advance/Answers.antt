-- The cell chosen is taken in hand, or the search is at its end.
use Rattle.std.proofs.Common.{arith}
use Rattle.net_cells.specs.Lists.{view}
use Rattle.net_cells_search.proofs.Relaxing.{in_hand, in_hand_falls, at_its_end}
use Rattle.net_cells_search.proofs.room.Room.advance.Goals as goal

pub scan-requires-clause-going : goal.scan-requires-clause-going
scan-requires-clause-going c =
    in_hand (view c.args.cells.now c.args.costs.now c.args.side) c.in-Some.u c.args.self.now c.next.new.self c.in-Some.ensures.some c.in-Some.ensures.len c.requires.going

pub returns-in-Some-clause-effort : goal.returns-in-Some-clause-effort
returns-in-Some-clause-effort c = λ _.
    omega (
      arith,
      c.scan.ensures.effort,
      in_hand_falls (view c.args.cells.now c.args.costs.now c.args.side) c.in-Some.u c.args.self.now c.next.new.self c.in-Some.ensures.some c.in-Some.ensures.len c.requires.going,
    )
