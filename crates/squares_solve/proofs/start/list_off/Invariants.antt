use Rattle.squares_solve.proofs.Listing.{ListedTo}
use Rattle.squares_solve.proofs.start.list_off.Given as goal

abbrev pub invariant-loop-v : goal.invariant-loop-v
invariant-loop-v l = ListedTo l.cells l.list l.count l.v
