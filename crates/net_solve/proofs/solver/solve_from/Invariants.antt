use Rattle.std.proofs.Common.{ℕ, ◌%◌, ◌<◌, pos, ◌≤ℤ◌}
use Rattle.net_graph.specs.Network.{graph}
use Rattle.net_graph.specs.Sound.{state}
use Rattle.net_solve.specs.Inner.{Progress}
use Rattle.net_solve.proofs.solver.solve_from.Given as goal

abbrev pub invariant-loop-first : goal.invariant-loop-first
invariant-loop-first l = record {
  progress : Progress l.fn.flow l.fn.search l.flow l.search;
  sent : (v : ℕ) → v < (graph l.fn.flow.net).nodes → v % 31 < l.first → (state l.flow).excess v ≤ℤ pos 0;
}
