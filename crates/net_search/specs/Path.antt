-- What a search leads to: potentials under which the arcs of the path found have reduced cost 0, that path, and units that go along it;
-- or a set that nothing leaves.
use Rattle.std.specs.Prelude.{◌≡◌, ℕ, ◌+◌, ◌<◌, ◌≤◌, ◌⊎◌, ℤ, pos, ◌+ℤ◌, ◌-ℤ◌, ◌≤ℤ◌, ◌<ℤ◌, ◌≢◌, unsigned_abs}
use Rattle.net_graph.specs.Graph.{Graph, at, reduced_cost, IsPseudoflow, IsReducedCostOptimal}
use Rattle.net_graph.specs.Sound.{State, supply, outgoing, incoming}
use Rattle.net_search.specs.Tree.{Tree}

-- the potentials of the reached nodes are lower, by what these are nearer than the target
pub record Lowered (n : ℕ) (t : Tree) (p p' : ℕ → ℤ) : Type 0 where
  pub inside : (v : ℕ) → v < n → t.place v < t.reached → p' v ≡ (p v +ℤ (t.distance v -ℤ t.bound))
  pub outside : (v : ℕ) → v < n → t.reached ≤ t.place v → p' v ≡ p v

-- reached, or the end of the path
abbrev pub OnPath : Tree → ℕ → Type 0
OnPath t v = (t.place v < t.reached) ⊎ (v ≡ t.target)

-- an open arc of reduced cost 0 leads to node v from its predecessor
pub record Step (g : Graph) (s : State) (t : Tree) (v : ℕ) : Type 0 where
  pub arc : t.pred v < g.arcs
  pub ends : g.head (t.pred v) ≡ v
  pub takes : s.flow (t.pred v) <ℤ g.limit (t.pred v)
  pub tight : reduced_cost g s.flow s.potential (t.pred v) ≡ pos 0
  pub from : t.place (g.tail (t.pred v)) < t.reached
  pub earlier : t.place (g.tail (t.pred v)) < t.place v

-- predecessors lead from the target to the source by arcs of reduced cost 0
pub record IsShortestPath (g : Graph) (s : State) (t : Tree) : Type 0 where
  pub source : t.source < g.nodes
  pub target : t.target < g.nodes
  pub deficit : s.excess t.target <ℤ pos 0
  pub step : (v : ℕ) → v < g.nodes → OnPath t v → (v ≢ t.source) → Step g s t v

-- node v stands on the path from the source to node u
pub data IsPredecessor (g : Graph) (t : Tree) : ℕ → ℕ → Type 0 where
  here : {v : ℕ} → IsPredecessor g t v v
  back : {u v : ℕ} → (u ≢ t.source) → IsPredecessor g t (g.tail (t.pred u)) v → IsPredecessor g t u v

-- d units have gone from node v to the target; no arc before v is touched, and what leaves a node or comes to it has grown by no more than d,
-- and not at all at the nodes before v
pub record Walking (g : Graph) (s s' : State) (t : Tree) (v : ℕ) (d : ℤ) : Type 0 where
  pub node : v < g.nodes
  pub on : OnPath t v
  pub chain : IsPredecessor g t t.target v
  pub flows : IsPseudoflow g s'.flow
  pub priced : IsReducedCostOptimal g s'.flow s.potential
  pub untouched : (b : ℕ) → b < g.arcs → t.place (g.tail b) ≤ t.place v → t.place (g.head b) ≤ t.place v → s'.flow b ≡ s.flow b
  pub moved : (b : ℕ) → b < g.arcs → unsigned_abs (s'.flow b) ≤ unsigned_abs (s.flow b) + unsigned_abs d
  pub leaves : (u : ℕ) → outgoing g s'.flow u ≤ℤ (outgoing g s.flow u +ℤ d)
  pub leaves_before : (u : ℕ) → t.place u < t.place v → outgoing g s'.flow u ≤ℤ outgoing g s.flow u
  pub comes : (u : ℕ) → incoming g s'.flow u ≤ℤ (incoming g s.flow u +ℤ d)
  pub comes_before : (u : ℕ) → t.place u ≤ t.place v → incoming g s'.flow u ≤ℤ incoming g s.flow u
  pub excess : (w : ℕ) → s'.excess w ≡ ((s.excess w +ℤ at t.target d w) -ℤ at v d w)
  pub supplies : (w : ℕ) → supply g s' w ≡ supply g s w

-- nothing more can leave the reached nodes; none of them has a deficit, and the source has something in excess
pub record Cut (g : Graph) (s : State) (t : Tree) : Type 0 where
  pub closed : (a : ℕ) → a < g.arcs → t.place (g.tail a) < t.reached → t.reached ≤ t.place (g.head a) → s.flow a ≡ g.limit a
  pub no_deficit : (v : ℕ) → v < g.nodes → t.place v < t.reached → pos 0 ≤ℤ s.excess v
  pub source : t.source < g.nodes
  pub inside : t.place t.source < t.reached
  pub excess : pos 0 <ℤ s.excess t.source
