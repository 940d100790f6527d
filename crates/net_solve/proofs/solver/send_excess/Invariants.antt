use Rattle.net_graph.specs.Network.{graph}
use Rattle.net_graph.specs.Sound.{state, total_excess}
use Rattle.net_solve.specs.Inner.{Progress}
use Rattle.net_solve.proofs.solver.send_excess.Given as goal

abbrev pub invariant-loop-flow : goal.invariant-loop-flow
invariant-loop-flow l = Progress l.fn.flow l.fn.search l.flow l.search

abbrev pub decreases-loop-flow : goal.decreases-loop-flow
decreases-loop-flow l = total_excess (graph l.fn.flow.net) (state l.flow)
