-- The path found, from the target back to the source.
use Rattle.std.specs.Prelude.{◌≡◌, ℕ, ◌<◌, ◌≢◌}
use Rattle.net_graph.specs.Graph.{Graph}
use Rattle.net_search.specs.Tree.{Tree}
use Rattle.net_search.specs.Path.{OnPath}

-- the predecessor of node v was reached before it
pub record HasEarlierPredecessor (g : Graph) (t : Tree) (v : ℕ) : Type 0 where
  pub arc : t.pred v < g.arcs
  pub from : t.place (g.tail (t.pred v)) < t.reached
  pub earlier : t.place (g.tail (t.pred v)) < t.place v

-- so were those of all nodes of the path but the source
abbrev pub HaveEarlierPredecessors : Graph → Tree → Type 0
HaveEarlierPredecessors g t = (v : ℕ) → v < g.nodes → OnPath t v → (v ≢ t.source) → HasEarlierPredecessor g t v

-- from node v to its predecessor u, against arc a
pub record PredecessorStep (g : Graph) (t : Tree) (v a u : ℕ) : Type 0 where
  pub more : v ≢ t.source
  pub arc : a ≡ t.pred v
  pub tail : u ≡ g.tail a
