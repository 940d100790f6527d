use Rattle.std.proofs.Common.{◌≡◌, ℕ, ◌%◌, ◌<◌, ◌-◌, pos, ◌≤ℤ◌}
use Rattle.net_graph.specs.Network.{graph}
use Rattle.net_graph.specs.Sound.{state}
use Rattle.net_solve.specs.Inner.{Progress}
use Rattle.net_solve.proofs.solver.solve_some.Given as goal

abbrev pub invariant-loop-source : goal.invariant-loop-source
invariant-loop-source l = record {
  progress : Progress l.fn.flow l.fn.search l.flow l.search;
  number : l.source % 31 ≡ l.first;
  sent : (v : ℕ) → v < (graph l.fn.flow.net).nodes → v < l.source → v % 31 ≡ l.first → (state l.flow).excess v ≤ℤ pos 0;
}

abbrev pub decreases-loop-source : goal.decreases-loop-source
decreases-loop-source l = l.source-end - l.source
