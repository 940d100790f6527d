-- What a cheapest circulation in the network of links says of them. Each theorem is a statement, a type whose proof is owed.
use Rattle.std.specs.Prelude.{ℕ, ℤ, pos}
use Rattle.net_graph.specs.Graph.{Graph, IsNetwork, IsPseudoflow, IsReducedCostOptimal}
use Rattle.net_theory.specs.Theorems.{Meets}
use Rattle.net_build.specs.Edges.{Represents}
use Rattle.net_build.specs.Grouped.{FitEdges}
use Rattle.net_links.specs.Links.{Links, Numbers, CostLeast, Certified}
use Rattle.net_links_flow.specs.Network.{FitLinks, links_edges}

-- links that are fit make edges that are
abbrev pub LinksFit : Type 0
LinksFit = (l : Links) (nodes : ℕ) → FitLinks l nodes → FitEdges (links_edges l) nodes

-- potentials that make a flow without supplies cheapest are numbers that cost least, as the flow shows
abbrev pub OptimalIsLeast : Type 0
OptimalIsLeast =
    (l : Links) (g : Graph) (arc : ℕ → ℕ) (x : ℕ → ℤ) (p : Numbers) → Represents (links_edges l) g arc → IsNetwork g →
    IsPseudoflow g x → Meets g x (λ v. pos 0) → IsReducedCostOptimal g x p → CostLeast l p × Certified l g.nodes p (λ i. x (arc i))
