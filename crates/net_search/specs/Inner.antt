-- What holds within a search: of its lists, of one arc after another, and of one node after another.
use Rattle.std.specs.Prelude.{◌≡◌, ℕ, ◌+◌, ◌<◌, ◌≤◌, ℤ, pos, ◌≤ℤ◌, ◌<ℤ◌, ◌≢◌}
use Rattle.net_graph.specs.Graph.{Graph}
use Rattle.net_graph.specs.Sound.{State}
use Rattle.net_search.specs.Label.{infinity, Listed}
use Rattle.net_search.specs.Tree.{Tree, HasPredecessor, Relaxed, HasTarget}

-- the lists of a search say what its labels and places say
abbrev pub ListedTree : ℕ → Tree → Type 0
ListedTree n t = Listed n t.distance t.place t.order t.frontier t.reached t.waiting

-- no node is labelled
pub record Forgot (n : ℕ) (t : Tree) : Type 0 where
  pub distance : (v : ℕ) → v < n → infinity ≤ℤ t.distance v
  pub place : (v : ℕ) → v < n → t.place v ≡ n
  pub reached : t.reached ≡ 0
  pub waiting : t.waiting ≡ 0

-- of the arcs of the node in hand those below `upto` are relaxed, and all arcs of the others reached
pub record Searching (g : Graph) (s : State) (hand upto : ℕ) (t : Tree) : Type 0 where
  pub listed : ListedTree g.nodes t
  pub is_node : t.source < g.nodes
  pub rooted : 0 < t.reached → t.place t.source < t.reached
  pub source_distance : t.distance t.source ≡ pos 0
  pub parent : (v : ℕ) → v < g.nodes → t.distance v <ℤ infinity → (v ≢ t.source) → HasPredecessor g s t v
  pub low : (v : ℕ) → v < g.nodes → t.place v < t.reached → t.distance v ≤ℤ t.last_distance
  pub high : (v : ℕ) → v < g.nodes → t.reached ≤ t.place v → t.last_distance ≤ℤ t.distance v
  pub relaxed : (a : ℕ) → a < g.arcs → t.place (g.tail a) < t.reached → (g.tail a ≡ hand → a < upto) → s.flow a <ℤ g.limit a → Relaxed g s t a
  pub capped : t.last_distance ≤ℤ t.bound
  pub deficits : (v : ℕ) → v < g.nodes → s.excess v <ℤ pos 0 → t.bound ≤ℤ t.distance v
  pub aims : t.bound <ℤ t.radius → HasTarget g s t
  pub bounded : t.bound ≤ℤ t.radius
  pub radius_most : t.radius ≤ℤ infinity

-- node u is the one reached last
pub record InHand (n : ℕ) (t : Tree) (u : ℕ) : Type 0 where
  pub node : u < n
  pub reached : t.place u < t.reached
  pub last_distance : t.distance u ≡ t.last_distance

-- node v has the label d by arc a, and waits on the frontier
pub record Improved (n : ℕ) (t t' : Tree) (v a : ℕ) (d : ℤ) : Type 0 where
  pub listed : ListedTree n t'
  pub place : (w : ℕ) → t'.place w ≡ t.place w
  pub source : t'.source ≡ t.source
  pub reached : t'.reached ≡ t.reached
  pub last_distance : t'.last_distance ≡ t.last_distance
  pub radius : t'.radius ≡ t.radius
  pub distance_here : t'.distance v ≡ d
  pub distance_kept : (w : ℕ) → (w ≢ v) → t'.distance w ≡ t.distance w
  pub pred_here : t'.pred v ≡ a
  pub pred_kept : (w : ℕ) → (w ≢ v) → t'.pred w ≡ t.pred w

-- node v takes the label d by arc a, and, if it has a deficit, is the target
pub record LabelTaken (n : ℕ) (excess : ℕ → ℤ) (t t' : Tree) (v a : ℕ) (d : ℤ) : Type 0 where
  pub improved : Improved n t t' v a d
  pub aim : excess v <ℤ pos 0 → (t'.bound ≡ d) × (t'.target ≡ v)
  pub kept : pos 0 ≤ℤ excess v → (t'.bound ≡ t.bound) × (t'.target ≡ t.target)

-- the search is over: no node that is not reached is nearer than the bound
abbrev pub Ended : ℕ → Tree → Type 0
Ended n t = (v : ℕ) → v < n → t.reached ≤ t.place v → t.bound ≤ℤ t.distance v

-- node u, which waited on the frontier, is reached
pub record Reached (n : ℕ) (t t' : Tree) (u : ℕ) : Type 0 where
  pub listed : ListedTree n t'
  pub here : t'.place u ≡ t.reached
  pub kept : (v : ℕ) → (v ≢ u) → t'.place v ≡ t.place v
  pub reached : t'.reached ≡ t.reached + 1
  pub distance : (v : ℕ) → t'.distance v ≡ t.distance v
  pub pred : (v : ℕ) → t'.pred v ≡ t.pred v
  pub source : t'.source ≡ t.source
  pub radius : t'.radius ≡ t.radius
  pub bound : t'.bound ≡ t.bound
  pub target : t'.target ≡ t.target

-- node u, one of the nearest on the frontier, is reached
pub record Advanced (n : ℕ) (t t' : Tree) (u : ℕ) : Type 0 where
  pub node : u < n
  pub was : t.reached ≤ t.place u
  pub nearer : t.distance u <ℤ t.bound
  pub least : (v : ℕ) → v < n → t.reached ≤ t.place v → t.distance u ≤ℤ t.distance v
  pub step : Reached n t t' u
  pub last_distance : t'.last_distance ≡ t.distance u

-- nothing is known but the source
pub record Begun (n : ℕ) (t : Tree) : Type 0 where
  pub listed : ListedTree n t
  pub source_distance : t.distance t.source ≡ pos 0
  pub only : (v : ℕ) → v < n → t.distance v <ℤ infinity → v ≡ t.source
  pub reached : t.reached ≡ 0
  pub last_distance : t.last_distance ≡ pos 0
  pub bound : t.bound ≡ t.radius
