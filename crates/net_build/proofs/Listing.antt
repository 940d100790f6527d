-- A network of edges on slices.
use Rattle.std.proofs.Common.{◌≡◌, ℕ, ◌+◌, ◌*◌, ◌≤◌, List, length, get_or, sym, subst, arith}
use Rattle.net_graph.specs.Graph.{Graph, IsNetwork, WellFormed, graph_of}
use Rattle.net_build.specs.Edges.{Edges, Represents}
use Rattle.net_build.specs.Ends.{from_of, to_of}
use Rattle.net_build.specs.Grouped.{grouped, FitEdges}
use Rattle.net_build.specs.Lists.{edges_of, arcs_of}
use Rattle.net_build.specs.Placed.{Placed}
use Rattle.net_build.specs.Slots.{base}
use Rattle.net_build.specs.declared.edge.Edge.{Edge}
use Rattle.net_build.specs.declared.arcs.ArcLists.{ArcLists}
use Rattle.net_build.proofs.Grouping.{grouped_is_network}

-- a network whose nodes and arcs are counted otherwise
abbrev counted : Graph → ℕ → ℕ → Graph
counted g n k =
    record {
      nodes = n;
      arcs = k;
      first = g.first;
      tail = g.tail;
      head = g.head;
      pair = g.pair;
      cost = g.cost;
      limit = g.limit;
    }

laws_counted : (g : Graph) (n k : ℕ) → n ≡ g.nodes → k ≡ g.arcs → IsNetwork g → IsNetwork (counted g n k)
laws_counted g n k p q w = subst (λ (i : ℕ). IsNetwork (counted g i k)) (sym p) (subst (λ (i : ℕ). IsNetwork (counted g g.nodes i)) (sym q) w)

built_counted : (es : Edges) (g : Graph) (arc : ℕ → ℕ) (n k : ℕ) → n ≡ g.nodes → k ≡ g.arcs → Represents es g arc → Represents es (counted g n k) arc
built_counted es g arc n k p q b = subst (λ (i : ℕ). Represents es (counted g i k) arc) (sym p) (subst (λ (i : ℕ). Represents es (counted g g.nodes i) arc) (sym q) b)

-- arcs that are grouped are a network of their edges
module _ (edges : List Edge) (n : ℕ) (first : List ℕ) (lists : ArcLists) (fit : FitEdges (edges_of edges) n) (nodes : length first ≡ n + 1)
    (arcs : length lists.arcs.now ≡ length edges * 2) (begins : (v : ℕ) → v ≤ n → get_or first v 0 ≡ base (from_of edges) (to_of edges) (length edges) v) (placed : Placed (edges_of edges) n (length edges) (arcs_of lists)) where
  made : IsNetwork (grouped n (edges_of edges) (λ v. get_or first v 0) (arcs_of lists)) × Represents (edges_of edges) (grouped n (edges_of edges) (λ v. get_or first v 0) (arcs_of lists)) (arcs_of lists).arc
  made = grouped_is_network (edges_of edges) n (λ v. get_or first v 0) (arcs_of lists) fit begins placed

  pub made_formed : WellFormed first lists.arcs.now
  made_formed = record { some = omega (arith, nodes); laws = laws_counted (grouped n (edges_of edges) (λ v. get_or first v 0) (arcs_of lists)) _ _ (omega (arith, nodes)) arcs made.0 }

  pub made_built : Represents (edges_of edges) (graph_of first lists.arcs.now) (λ e. get_or lists.arc_of.now e 0)
  made_built = built_counted (edges_of edges) (grouped n (edges_of edges) (λ v. get_or first v 0) (arcs_of lists)) _ _ _ (omega (arith, nodes)) arcs made.1
