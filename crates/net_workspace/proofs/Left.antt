-- What the solver leaves in the slices that it was lent.
use Rattle.std.proofs.Common.{◌≡◌, ℕ, ℤ, List, Result}
use Rattle.net_graph.specs.Graph.{Graph}
use Rattle.net_graph.specs.Sound.{state}
use Rattle.net_graph.specs.declared.node.Node.{Node}
use Rattle.net_graph.specs.declared.flow.Flow.{Flow}
use Rattle.net_search.specs.Label.{place_of}
use Rattle.net_search.specs.declared.label.Label.{Label}
use Rattle.net_solve.specs.Promise.{IsSolution}
use Rattle.net_solve.specs.declared.infeasible.Infeasible.{Infeasible}
use Rattle.net_waves.specs.Promise.{IsOptimum}
use Rattle.net_workspace.specs.Slices.{state_of}

pub left_behind : (g : Graph) (e : ℕ → ℤ) (f : Flow) (searched : List Label) (flow : List ℤ) (nodes : List Node) (labels : List Label) (r : Result (Unit {0}) Infeasible) → flow ≡ f.flow.now → nodes ≡ f.nodes.now → labels ≡ searched →
    IsSolution g e (state f) (place_of searched) r → IsSolution g e (state_of flow nodes) (place_of labels) r
left_behind g e f searched flow nodes labels r is_flow is_nodes is_labels o = rw is_flow (rw is_nodes (rw is_labels o))

pub optimum_left : (g : Graph) (e : ℕ → ℤ) (f : Flow) (searched : List Label) (flow : List ℤ) (nodes : List Node) (labels : List Label) (r : Result (Unit {0}) Infeasible) → flow ≡ f.flow.now → nodes ≡ f.nodes.now → labels ≡ searched →
    IsOptimum g e (state f) (place_of searched) r → IsOptimum g e (state_of flow nodes) (place_of labels) r
optimum_left g e f searched flow nodes labels r is_flow is_nodes is_labels o = rw is_flow (rw is_nodes (rw is_labels o))
