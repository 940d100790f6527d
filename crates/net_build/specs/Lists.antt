-- Edges and arcs on slices.
use Rattle.std.specs.Prelude.{◌≡◌, ℕ, List, length, slice_index, slice_index_or}
use Rattle.net_graph.specs.Graph.{no_arc}
use Rattle.net_build.specs.Edges.{Edges}
use Rattle.net_build.specs.Ends.{no_edge, from_of, to_of}
use Rattle.net_build.specs.Placed.{Arcs}
use Rattle.net_build.specs.Slots.{degree, base}
use Rattle.net_build.specs.declared.edge.Edge.{Edge}
use Rattle.net_build.specs.declared.edge.EdgeList.{EdgeList}
use Rattle.net_build.specs.declared.arcs.ArcLists.{ArcLists}

abbrev pub edges_of : List Edge → Edges
edges_of es =
    record {
      count = length es;
      from = from_of es;
      to = to_of es;
      cost = λ e. (slice_index_or es e no_edge).cost;
      reverse_cost = λ e. (slice_index_or es e no_edge).reverse_cost;
      limit = λ e. (slice_index_or es e no_edge).limit;
      reverse_limit = λ e. (slice_index_or es e no_edge).reverse_limit;
    }

abbrev pub arcs_of : ArcLists → Arcs
arcs_of l =
    record {
      tail = λ a. (slice_index_or l.arcs.now a no_arc).tail;
      head = λ a. (slice_index_or l.arcs.now a no_arc).head;
      pair = λ a. (slice_index_or l.arcs.now a no_arc).pair;
      cost = λ a. (slice_index_or l.arcs.now a no_arc).cost;
      limit = λ a. (slice_index_or l.arcs.now a no_arc).limit;
      arc = λ e. slice_index l.arc_of.now e;
    }

-- how many ends of edges are at node v, and at the nodes before it
abbrev pub degree_of : EdgeList → ℕ → ℕ
degree_of l v = degree (from_of l.edges.now) (to_of l.edges.now) (length l.edges.now) v

abbrev pub base_of : EdgeList → ℕ → ℕ
base_of l v = base (from_of l.edges.now) (to_of l.edges.now) (length l.edges.now) v

-- the lists are written where they were lent
pub record SameLists (l l' : ArcLists) : Type 0 where
  pub arcs : l'.arcs.ghost_name ≡ l.arcs.ghost_name
  pub arc_of : l'.arc_of.ghost_name ≡ l.arc_of.ghost_name
