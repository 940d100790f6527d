-- The dual of a cheapest flow: what potentials cost, and that flows bound it.
use Rattle.std.specs.Prelude.{◌≡◌, ℕ, ℤ, pos, ◌+ℤ◌, ◌-ℤ◌, ◌*ℤ◌, neg_ℤ, ◌≤ℤ◌}
use borrow.Author.Differences.{up}
use Rattle.sums.specs.Sum.{sum_ℤ}
use Rattle.net_graph.specs.Graph.{Graph, IsNetwork, IsPseudoflow, IsReducedCostOptimal}
use Rattle.net_theory.specs.Theorems.{total_cost, Meets}

-- by how much more than the arc's cost the head of each arc lies above its tail, at the arc's limit for each, added over all arcs
unfoldable pub potential_cost : Graph → (ℕ → ℤ) → ℤ
potential_cost g p = sum_ℤ g.arcs (λ a. g.limit a *ℤ pos (up ((p (g.head a) -ℤ p (g.tail a)) -ℤ g.cost a)))

-- each potential times what its node supplies
unfoldable pub supply_value : Graph → (e p : ℕ → ℤ) → ℤ
supply_value g e p = sum_ℤ g.nodes (λ v. p v *ℤ e v)

-- no potentials cost less than a flow that meets the supplies shows, and those that make it cheapest cost just that
abbrev pub FlowsBoundPotentials : Type 0
FlowsBoundPotentials =
    (g : Graph) → IsNetwork g → (e x : ℕ → ℤ) → IsPseudoflow g x → Meets g x e →
    ((q : ℕ → ℤ) → neg_ℤ (total_cost g x) ≤ℤ (potential_cost g q +ℤ supply_value g e q))
    × ((p : ℕ → ℤ) → IsReducedCostOptimal g x p → (potential_cost g p +ℤ supply_value g e p) ≡ neg_ℤ (total_cost g x))
