-- What potentials and cuts say of all flows. Each theorem is a statement, the contract of a function in src/.
use Rattle.std.specs.Prelude.{◌≡◌, ℕ, ◌<◌, Bool, true, false, ℤ, pos, ◌*ℤ◌, ◌≤ℤ◌, ◌<ℤ◌}
use borrow.Author.Differences.{up}
use Rattle.sums.specs.Sum.{sum_ℤ, sum_to}
use Rattle.net_graph.specs.Graph.{Graph, IsNetwork, IsPseudoflow, IsReducedCostOptimal, outflow}

-- what a flow costs: each unit what the arc that it goes along costs
unfoldable pub total_cost : Graph → (ℕ → ℤ) → ℤ
total_cost g x = sum_ℤ g.arcs (λ a. g.cost a *ℤ pos (up (x a)))

-- what leaves each node is its supply
abbrev pub Meets : Graph → (ℕ → ℤ) → (ℕ → ℤ) → Type 0
Meets g x e = (v : ℕ) → v < g.nodes → outflow g x v ≡ e v

-- a flow that is optimal by reduced costs costs no more than any flow that meets the same supplies
abbrev pub ReducedCostOptimalIsCheapest : Type 0
ReducedCostOptimalIsCheapest =
    (g : Graph) → IsNetwork g → (e x p : ℕ → ℤ) → IsPseudoflow g x → Meets g x e → IsReducedCostOptimal g x p →
    (y : ℕ → ℤ) → IsPseudoflow g y → Meets g y e → total_cost g x ≤ℤ total_cost g y

-- a set of nodes that a flow leaves to the limit, and that has more than that: none of its nodes sends more than its supply, and one sends less
pub record IsInfeasibleCut (g : Graph) (e x : ℕ → ℤ) (inside : ℕ → Bool) : Type 0 where
  pub closed : (a : ℕ) → a < g.arcs → inside (g.tail a) ≡ true → inside (g.head a) ≡ false → x a ≡ g.limit a
  pub no_deficit : (v : ℕ) → v < g.nodes → inside v ≡ true → outflow g x v ≤ℤ e v
  pub some : (v : ℕ) × (v < g.nodes) × (inside v ≡ true) × (outflow g x v <ℤ e v)

-- then no flow meets the supplies
abbrev pub CutIsInfeasible : Type 0
CutIsInfeasible =
    (g : Graph) → IsNetwork g → (e x : ℕ → ℤ) → IsPseudoflow g x → (inside : ℕ → Bool) → IsInfeasibleCut g e x inside →
    (y : ℕ → ℤ) → IsPseudoflow g y → Meets g y e → ⊥

-- a path from u to v along arcs of at least such a limit
pub data Joined (g : Graph) (least : ℤ) : ℕ → ℕ → Type 0 where
  here : {v : ℕ} → Joined g least v v
  along : {v : ℕ} (a : ℕ) → a < g.arcs → least ≤ℤ g.limit a → Joined g least (g.head a) v → Joined g least (g.tail a) v

-- where supplies add up to 0 and arcs whose limits take all of them join every two nodes, there is no such set
abbrev pub JoinedHasNoCut : Type 0
JoinedHasNoCut =
    (g : Graph) → IsNetwork g → (e x : ℕ → ℤ) → IsPseudoflow g x → sum_ℤ g.nodes e ≡ pos 0 →
    ((u v : ℕ) → u < g.nodes → v < g.nodes → Joined g (pos (sum_to g.nodes (λ w. up (e w)))) u v) →
    (inside : ℕ → Bool) → IsInfeasibleCut g e x inside → ⊥
