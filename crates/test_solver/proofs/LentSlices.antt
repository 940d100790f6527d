-- What the solver leaves in the slices that it was lent.
use Rattle.std.proofs.Common.{◌≡◌, List, Result}
use Rattle.net_graph.specs.Network.{graph}
use Rattle.net_graph.specs.Node.{excess_of}
use Rattle.net_graph.specs.Sound.{state}
use Rattle.net_graph.specs.declared.network.Network.{Network}
use Rattle.net_graph.specs.declared.flow.Flow.{Flow}
use Rattle.net_search.specs.Label.{place_of}
use Rattle.net_search.specs.declared.label.Label.{Label}
use Rattle.test_solver.specs.declared.lists.Lists.{Lists}
use Rattle.net_solve.specs.Promise.{IsSolution, IsOptimal}
use Rattle.test_solver.specs.Tried.{Done}
use Rattle.net_solve.specs.declared.infeasible.Infeasible.{Infeasible}
use Rattle.test_solver.specs.declared.checked.Slices.{Slices}

pub done : (l : Lists) (s s' : Slices) (net : Network) (f : Flow) (searched : List Label) (r : Result (Unit {0}) Infeasible) → l.first ≡ net.first → l.arcs ≡ net.arcs → s'.flow.now ≡ f.flow.now → s'.nodes.now ≡ f.nodes.now → s'.labels.now ≡ searched
    → IsSolution (graph net) (excess_of s.nodes.now) (state f) (place_of searched) r → IsOptimal (graph net) (excess_of s.nodes.now) (state f).flow r → Done l s s' r
done l s s' net f searched r first arcs flow nodes labels o m = record { solution = rw first (rw arcs (rw flow (rw nodes (rw labels o)))); optimal = rw first (rw arcs (rw flow m)) }
