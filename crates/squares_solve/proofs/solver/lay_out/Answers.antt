use Rattle.std.proofs.Common.{arith}
use Rattle.squares_build.specs.Steps.{lent}
use Rattle.squares_solve.proofs.Beginning.{outside_is}
use Rattle.squares_solve.proofs.solver.lay_out.Goals as goal

pub list_off-requires-clause-outside : goal.list_off-requires-clause-outside
list_off-requires-clause-outside c = outside_is (lent c.args.steps.now) c.fill_cells.new.cells c.fill_cells.ensures (omega (arith, c.fill_cells.auto.cells, c.requires.cells))
