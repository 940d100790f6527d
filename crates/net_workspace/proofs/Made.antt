-- Arcs that are grouped are a network of their edges.
use Rattle.std.proofs.Common.{◌≡◌, ℕ, ◌+◌, ◌*◌, ◌≤◌, List, length, get_or}
use Rattle.net_graph.specs.Graph.{WellFormed, graph_of}
use Rattle.net_graph.specs.declared.arc.Arc.{Arc}
use Rattle.net_build.specs.Edges.{Represents}
use Rattle.net_build.specs.Ends.{from_of, to_of}
use Rattle.net_build.specs.Grouped.{FitEdges}
use Rattle.net_build.specs.Lists.{edges_of, arcs_of}
use Rattle.net_build.specs.Placed.{Placed}
use Rattle.net_build.specs.Slots.{base}
use Rattle.net_build.specs.declared.edge.Edge.{Edge}
use Rattle.net_build.specs.declared.arcs.ArcLists.{ArcLists}
use Rattle.net_build.proofs.Listing.{made_formed, made_built}
use Rattle.net_workspace.specs.Slices.{arc_in}

module _ (edges : List Edge) (n : ℕ) (first : List ℕ) (lists : ArcLists) (arcs : List Arc) (arc_of : List ℕ) (fit : FitEdges (edges_of edges) n) (nodes : length first ≡ n + 1)
    (count : length lists.arcs.now ≡ length edges * 2) (begins : (v : ℕ) → v ≤ n → get_or first v 0 ≡ base (from_of edges) (to_of edges) (length edges) v) (placed : Placed (edges_of edges) n (length edges) (arcs_of lists))
    (is_arcs : arcs ≡ lists.arcs.now) (is_arc_of : arc_of ≡ lists.arc_of.now) where
  pub formed : WellFormed first arcs
  formed = rw is_arcs (made_formed edges n first lists fit nodes count begins placed)

  pub represents : Represents (edges_of edges) (graph_of first arcs) (arc_in arc_of)
  represents = rw is_arcs (rw is_arc_of (made_built edges n first lists fit nodes count begins placed))
