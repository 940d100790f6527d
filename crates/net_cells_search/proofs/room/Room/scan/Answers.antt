-- Four ways, and then any cell may be the one in hand.
use Rattle.net_cells.specs.Lists.{view}
use Rattle.net_cells_theory.proofs.Fences.{potential_fits}
use Rattle.net_cells_search.proofs.Relaxing.{any_hand}
use Rattle.net_cells_search.proofs.room.Room.scan.Goals as goal

pub base-base-requires-clause-seen : goal.base-base-requires-clause-seen
base-base-requires-clause-seen c = potential_fits c.args.cells.now c.args.side c.args.u c.requires.bounded

pub returns-clause-going : goal.returns-clause-going
returns-clause-going c = any_hand (view c.args.cells.now c.args.costs.now c.args.side) c.args.u 0 c.relax-4.new.self c.relax-4.ensures.going
