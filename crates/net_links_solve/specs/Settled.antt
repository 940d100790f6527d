-- What a solve of the network of links leaves.
use Rattle.std.specs.Prelude.{◌≡◌, ℕ, ◌<◌, ℤ, pos, Result, Ok}
use Rattle.net_graph.specs.Graph.{Graph, IsNetwork}
use Rattle.net_graph.specs.Sound.{State}
use Rattle.net_build.specs.Edges.{Represents}
use Rattle.net_waves.specs.Promise.{IsOptimum}
use Rattle.net_solve.specs.declared.infeasible.Infeasible.{Infeasible}
use Rattle.net_links.specs.Links.{Links, Numbers, CostLeast, Certified}
use Rattle.net_links_flow.specs.Network.{links_edges}
use Rattle.net_workspace.specs.Workspace.{arc, state}
use Rattle.net_workspace.specs.declared.workspace.Workspace.{Workspace}

-- the numbers of the nodes in a workspace, and what goes along each link
abbrev pub numbers : Workspace → Numbers
numbers w = (state w).potential

abbrev pub flows : Workspace → ℕ → ℤ
flows w i = (state w).flow (arc w i)

-- it settles, its potentials cost least, and its flow along the links shows it
pub record LeavesLeast (l : Links) (nodes : ℕ) (arc : ℕ → ℕ) (s : State) (r : Result (Unit {0}) Infeasible) : Type 0 where
  pub settled : r ≡ Ok tt
  pub least : CostLeast l s.potential
  pub certified : Certified l nodes s.potential (λ i. s.flow (arc i))

-- what the solver leaves of the network of links where no node supplies anything
abbrev pub SolvedIsLeast : Type 0
SolvedIsLeast =
    (l : Links) (g : Graph) (arc : ℕ → ℕ) (e : ℕ → ℤ) (s : State) (place : ℕ → ℕ) (r : Result (Unit {0}) Infeasible) →
    Represents (links_edges l) g arc → IsNetwork g → ((v : ℕ) → v < g.nodes → e v ≡ pos 0) → IsOptimum g e s place r →
    LeavesLeast l g.nodes arc s r
