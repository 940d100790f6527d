-- Networks that are built from a list of edges.
use Rattle.std.specs.Prelude.{◌≡◌, ℕ, ◌^◌, ◌<◌, ◌≤◌, if◌then◌else◌, ◌⊎◌, ℤ, pos, ◌+ℤ◌, ◌-ℤ◌, ◌≤ℤ◌, ◌==◌, ◌≢◌, unsigned_abs}
use Rattle.sums.specs.Sum.{sum_ℤ}
use Rattle.net_graph.specs.Graph.{Graph, IsNetwork, IsPseudoflow, outflow}

-- edges by their number: their ends, and the cost of a unit and the limit in each direction
pub record Edges : Type 0 where
  pub count : ℕ
  pub from : ℕ → ℕ
  pub to : ℕ → ℕ
  pub cost : ℕ → ℤ
  pub reverse_cost : ℕ → ℤ
  pub limit : ℕ → ℤ
  pub reverse_limit : ℕ → ℤ

-- what an edge has to be for its arcs to be well-formed
pub record Lawful (nodes : ℕ) (es : Edges) (e : ℕ) : Type 0 where
  pub from : es.from e < nodes
  pub to : es.to e < nodes
  pub cheap : unsigned_abs (es.cost e) ≤ 2 ^ 30
  pub reverse_cheap : unsigned_abs (es.reverse_cost e) ≤ 2 ^ 30
  pub allowed : pos 0 ≤ℤ es.limit e
  pub limited : es.limit e ≤ℤ pos (2 ^ 60)
  pub reverse_allowed : pos 0 ≤ℤ es.reverse_limit e
  pub reverse_limited : es.reverse_limit e ≤ℤ pos (2 ^ 60)
  pub convex : pos 0 ≤ℤ (es.cost e +ℤ es.reverse_cost e)

-- g has two arcs for each edge e, `arc e` along it and the pair of that as the reverse one, and no others
pub record Represents (es : Edges) (g : Graph) (arc : ℕ → ℕ) : Type 0 where
  pub within : (e : ℕ) → e < es.count → arc e < g.arcs
  pub tail : (e : ℕ) → e < es.count → g.tail (arc e) ≡ es.from e
  pub head : (e : ℕ) → e < es.count → g.head (arc e) ≡ es.to e
  pub cost : (e : ℕ) → e < es.count → g.cost (arc e) ≡ es.cost e
  pub reverse_cost : (e : ℕ) → e < es.count → g.cost (g.pair (arc e)) ≡ es.reverse_cost e
  pub limit : (e : ℕ) → e < es.count → g.limit (arc e) ≡ es.limit e
  pub reverse_limit : (e : ℕ) → e < es.count → g.limit (g.pair (arc e)) ≡ es.reverse_limit e
  pub edge : (a : ℕ) → a < g.arcs → (e : ℕ) × (e < es.count) × ((arc e ≡ a) ⊎ (g.pair (arc e) ≡ a))
  pub single : (d e : ℕ) → d < es.count → e < es.count → arc d ≡ arc e → d ≡ e
  pub apart : (d e : ℕ) → d < es.count → e < es.count → arc d ≢ g.pair (arc e)

-- what edge e takes out of node v at a flow of so much along it: a loop takes nothing
abbrev pub taken : Edges → ℕ → ℕ → ℤ → ℤ
taken es v e z = (if es.from e == v then z else pos 0) -ℤ (if es.to e == v then z else pos 0)

-- sums over the arcs of a built network are sums over its edges, and so is what leaves a node
abbrev pub ArcsAreEdges : Type 0
ArcsAreEdges =
    (es : Edges) (g : Graph) (arc : ℕ → ℕ) → Represents es g arc → IsNetwork g →
    ((f : ℕ → ℤ) → sum_ℤ g.arcs f ≡ sum_ℤ es.count (λ e. f (arc e) +ℤ f (g.pair (arc e))))
    × ((x : ℕ → ℤ) → IsPseudoflow g x → (v : ℕ) → outflow g x v ≡ sum_ℤ es.count (λ e. taken es v e (x (arc e))))
