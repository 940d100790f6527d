-- Searches for shortest paths from a source, by reduced costs, as far as the nearest node with a deficit: what a search knows, and what it promises.
use Rattle.std.specs.Prelude.{◌≡◌, ℕ, ◌<◌, ◌≤◌, ◌⊎◌, length, ℤ, pos, ◌+ℤ◌, ◌≤ℤ◌, ◌<ℤ◌, ◌≢◌}
use Rattle.net_graph.specs.Graph.{Graph, reduced_cost}
use Rattle.net_graph.specs.Sound.{State}
use Rattle.net_graph.specs.Order.{node_at}
use Rattle.net_search.specs.Label.{distance_of, pred_of, place_of, infinity}
use Rattle.net_search.specs.declared.search.Search.{Search}

-- What a search knows. A node is labelled where its `distance` is below infinity, and `pred` is the arc by which it has that; it is reached
-- where its `place` is below `reached`, and then no shorter path leads to it. `order` has the reached nodes by their places, and
-- `frontier` the labelled nodes that are not reached yet. `bound` is the distance of `target`, the nearest labelled node with a deficit,
-- or `radius`, as far as the search goes, where there is none.
pub record Tree : Type 0 where
  pub distance : ℕ → ℤ
  pub pred : ℕ → ℕ
  pub place : ℕ → ℕ
  pub order : ℕ → ℕ
  pub frontier : ℕ → ℕ
  pub source : ℕ
  pub reached : ℕ
  pub waiting : ℕ
  pub last_distance : ℤ
  pub radius : ℤ
  pub bound : ℤ
  pub target : ℕ

abbrev pub tree : Search → Tree
tree s =
    record {
      distance = distance_of s.labels.now;
      pred = pred_of s.labels.now;
      place = place_of s.labels.now;
      order = node_at s.order.now;
      frontier = node_at s.frontier.now;
      source = s.source;
      reached = s.reached;
      waiting = s.waiting;
      last_distance = s.last_distance;
      radius = s.radius;
      bound = s.bound;
      target = s.target;
    }

-- the slices of a search have an element for each node
abbrev pub HasLengths : ℕ → Search → Type 0
HasLengths n s = length s.order.now ≡ n

-- it works on the slices that it was lent
pub record SameSlices (s s' : Search) : Type 0 where
  pub labels : s'.labels.ghost_name ≡ s.labels.ghost_name
  pub order : s'.order.ghost_name ≡ s.order.ghost_name
  pub frontier : s'.frontier.ghost_name ≡ s.frontier.ghost_name
  pub len : length s'.order.now ≡ length s.order.now

-- node v has its distance by an open arc from its predecessor, which was reached before it
pub record HasPredecessor (g : Graph) (s : State) (t : Tree) (v : ℕ) : Type 0 where
  pub arc : t.pred v < g.arcs
  pub ends : g.head (t.pred v) ≡ v
  pub takes : s.flow (t.pred v) <ℤ g.limit (t.pred v)
  pub from : t.place (g.tail (t.pred v)) < t.reached
  pub earlier : t.place (g.tail (t.pred v)) < t.place v
  pub sum : t.distance v ≡ (t.distance (g.tail (t.pred v)) +ℤ reduced_cost g s.flow s.potential (t.pred v))

-- distances are those of paths by predecessors from the source
pub record IsPathTree (g : Graph) (s : State) (t : Tree) : Type 0 where
  pub source : t.source < g.nodes
  pub source_distance : t.distance t.source ≡ pos 0
  pub predecessor : (v : ℕ) → v < g.nodes → t.distance v <ℤ infinity → (v ≢ t.source) → HasPredecessor g s t v
  pub labelled : (v : ℕ) → v < g.nodes → t.place v < t.reached → t.distance v <ℤ infinity
  pub place : (v : ℕ) → v < g.nodes → t.place v ≤ g.nodes

-- arc a leads to its head no nearer than the label of that, or than the bound
abbrev pub Relaxed : Graph → State → Tree → ℕ → Type 0
Relaxed g s t a =
    (t.distance (g.head a) ≤ℤ (t.distance (g.tail a) +ℤ reduced_cost g s.flow s.potential a))
    ⊎ (t.bound ≤ℤ (t.distance (g.tail a) +ℤ reduced_cost g s.flow s.potential a))

-- the target is a node with a deficit, at the bound
pub record HasTarget (g : Graph) (s : State) (t : Tree) : Type 0 where
  pub node : t.target < g.nodes
  pub deficit : s.excess t.target <ℤ pos 0
  pub distance : t.distance t.target ≡ t.bound

-- no shorter path is left that is shorter than the bound, and no node with a deficit is nearer
pub record IsShortest (g : Graph) (s : State) (t : Tree) : Type 0 where
  pub relaxed : (a : ℕ) → a < g.arcs → t.place (g.tail a) < t.reached → s.flow a <ℤ g.limit a → Relaxed g s t a
  pub reached : (v : ℕ) → v < g.nodes → t.place v < t.reached → t.distance v ≤ℤ t.bound
  pub unreached : (v : ℕ) → v < g.nodes → t.reached ≤ t.place v → t.bound ≤ℤ t.distance v
  pub no_nearer : (v : ℕ) → v < g.nodes → s.excess v <ℤ pos 0 → t.bound ≤ℤ t.distance v
  pub target : t.bound <ℤ t.radius → HasTarget g s t

-- a path of open arcs from u to v, whose reduced costs add up to d
pub data OpenPath (g : Graph) (s : State) (u : ℕ) : ℕ → ℤ → Type 0 where
  here : OpenPath g s u u (pos 0)
  along : {v : ℕ} {d e : ℤ} (a : ℕ) → a < g.arcs → s.flow a <ℤ g.limit a → OpenPath g s u (g.tail a) d → g.head a ≡ v → e ≡ (d +ℤ reduced_cost g s.flow s.potential a) → OpenPath g s u v e

-- no path of open arcs from the source to a reached node is shorter than its distance, and none to a node with a deficit than the bound
pub record NoShorterPath (g : Graph) (s : State) (t : Tree) : Type 0 where
  pub reached : (v : ℕ) (d : ℤ) → OpenPath g s t.source v d → t.place v < t.reached → t.distance v ≤ℤ d
  pub deficit : (v : ℕ) (d : ℤ) → OpenPath g s t.source v d → s.excess v <ℤ pos 0 → t.bound ≤ℤ d
