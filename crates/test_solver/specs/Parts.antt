-- Parts of what makes a network well-formed.
use Rattle.std.specs.Prelude.{◌≡◌, ℕ, ◌+◌, ◌-◌, ◌^◌, ◌<◌, ◌≤◌, List, length, pos, ◌+ℤ◌, ◌≤ℤ◌, slice_index, unsigned_abs}
use Rattle.net_graph.specs.Graph.{Graph}

pub record Grouped (g : Graph) (a : ℕ) : Type 0 where
  pub tail : g.tail a < g.nodes
  pub head : g.head a < g.nodes
  pub from : g.first (g.tail a) ≤ a
  pub below : a < g.first (g.tail a + 1)

pub record Paired (g : Graph) (a : ℕ) : Type 0 where
  pub pair : g.pair a < g.arcs
  pub back : g.pair (g.pair a) ≡ a
  pub apart : g.pair a ≡ a → ⊥
  pub turned : g.tail (g.pair a) ≡ g.head a

pub record Convex (g : Graph) (a : ℕ) : Type 0 where
  pub cheap : unsigned_abs (g.cost a) ≤ 2 ^ 30
  pub allowed : pos 0 ≤ℤ g.limit a
  pub limited : g.limit a ≤ℤ pos (2 ^ 60)
  pub convex : pos 0 ≤ℤ (g.cost a +ℤ g.cost (g.pair a))

-- the arcs of each node end where those of the next begin, and all are among the arcs
pub record Rising (first : List ℕ) (arcs : ℕ) : Type 0 where
  pub some : 1 ≤ length first
  pub rises : (v : ℕ) → v < length first - 1 → slice_index first v ≤ slice_index first (v + 1)
  pub ends : slice_index first (length first - 1) ≤ arcs
