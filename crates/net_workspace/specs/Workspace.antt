-- What a solve leaves in a workspace.
use Rattle.std.specs.Prelude.{◌≡◌, ℕ, length, Result}
use Rattle.net_graph.specs.Graph.{Graph, IsNetwork}
use Rattle.net_graph.specs.Node.{excess_of}
use Rattle.net_graph.specs.Sound.{State}
use Rattle.net_search.specs.Label.{place_of}
use Rattle.net_build.specs.Edges.{Edges, Represents}
use Rattle.net_solve.specs.Promise.{IsSolution}
use Rattle.net_solve.specs.declared.infeasible.Infeasible.{Infeasible}
use Rattle.net_waves.specs.Promise.{IsOptimum}
use Rattle.net_workspace.specs.Slices.{state_of, arc_in}
use Rattle.net_workspace.specs.declared.workspace.Workspace.{Workspace}

-- the slices are those that were lent, and as long
pub record SameLoans (w w' : Workspace) : Type 0 where
  pub first : w'.first.ghost_name ≡ w.first.ghost_name
  pub next : w'.next.ghost_name ≡ w.next.ghost_name
  pub arcs : w'.arcs.ghost_name ≡ w.arcs.ghost_name
  pub arc_of : w'.arc_of.ghost_name ≡ w.arc_of.ghost_name
  pub flow : w'.flow.ghost_name ≡ w.flow.ghost_name
  pub nodes : w'.nodes.ghost_name ≡ w.nodes.ghost_name
  pub labels : w'.labels.ghost_name ≡ w.labels.ghost_name
  pub order : w'.order.ghost_name ≡ w.order.ghost_name
  pub frontier : w'.frontier.ghost_name ≡ w.frontier.ghost_name
  pub tight : w'.tight.ghost_name ≡ w.tight.ghost_name
  pub heights : w'.heights.ghost_name ≡ w.heights.ghost_name
  pub slots : w'.slots.ghost_name ≡ w.slots.ghost_name
  pub node_count : length w'.nodes.now ≡ length w.nodes.now
  pub edge_count : length w'.arc_of.now ≡ length w.arc_of.now

-- the arc of each edge
abbrev pub arc : Workspace → ℕ → ℕ
arc w = arc_in w.arc_of.now

abbrev pub state : Workspace → State
state w = state_of w.flow.now w.nodes.now

-- in a network of the edges, what the nodes had in excess is sent along cheapest ways, or cannot be
pub record EdgesSolved (es : Edges) (w w' : Workspace) (r : Result (Unit {0}) Infeasible) : Type 0 where
  pub graph : Graph
  pub network : IsNetwork graph
  pub nodes : graph.nodes ≡ length w.nodes.now
  pub arcs : graph.arcs ≡ length w'.flow.now
  pub represents : Represents es graph (arc w')
  pub solution : IsSolution graph (excess_of w.nodes.now) (state w') (place_of w'.labels.now) r

-- the same of what is solved by waves
pub record EdgesOptimal (es : Edges) (w w' : Workspace) (r : Result (Unit {0}) Infeasible) : Type 0 where
  pub graph : Graph
  pub network : IsNetwork graph
  pub nodes : graph.nodes ≡ length w.nodes.now
  pub arcs : graph.arcs ≡ length w'.flow.now
  pub represents : Represents es graph (arc w')
  pub optimum : IsOptimum graph (excess_of w.nodes.now) (state w') (place_of w'.labels.now) r
