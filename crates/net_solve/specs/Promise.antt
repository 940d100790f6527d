-- What the solver promises.
use Rattle.std.specs.Prelude.{◌≡◌, ℕ, ◌*◌, ◌^◌, ◌<◌, ◌≤◌, ℤ, pos, ◌+ℤ◌, neg_ℤ, ◌≤ℤ◌, ◌<ℤ◌, if◌then◌else◌, int_lt, unsigned_abs, Result, Ok, Err}
use borrow.Author.Differences.{up}
use Rattle.sums.specs.Sum.{sum_ℤ, sum_to}
use Rattle.net_graph.specs.Graph.{Graph, IsNetwork, negative_arc_capacity, IsPseudoflow, IsReducedCostOptimal}
use Rattle.net_graph.specs.Sound.{State, supply, total_excess, outgoing, incoming}
use Rattle.net_graph.specs.declared.flow.Flow.{Flow}
use Rattle.net_theory.specs.Theorems.{total_cost, Meets, Joined}
use Rattle.net_solve.specs.declared.infeasible.Infeasible.{Infeasible}

-- the same network, and the slices that were lent
pub record SameFlow (f f' : Flow) : Type 0 where
  pub net : f'.net ≡ f.net
  pub flow : f'.flow.ghost_name ≡ f.flow.ghost_name
  pub nodes : f'.nodes.ghost_name ≡ f.nodes.ghost_name

-- supplies that add up to 0, and are not too many
pub record Balanced (n : ℕ) (e : ℕ → ℤ) : Type 0 where
  pub even : sum_ℤ n e ≡ pos 0
  pub few : sum_to n (λ v. up (e v)) ≤ 2 ^ 59

-- the flow to begin with: arcs of negative cost are filled
abbrev pub initial_flow : Graph → ℕ → ℤ
initial_flow g a = if int_lt (g.cost a) (pos 0) then g.limit a else (if int_lt (g.cost (g.pair a)) (pos 0) then neg_ℤ (g.limit (g.pair a)) else pos 0)

-- z and all units that are to go at first: all supplies e, and what arcs of negative cost are filled with
abbrev pub with_all_units : Graph → (ℕ → ℤ) → ℤ → ℤ
with_all_units g e z = (z +ℤ pos (sum_to g.nodes (λ v. up (e v)))) +ℤ sum_ℤ g.arcs (negative_arc_capacity g)

-- nothing more can leave the nodes whose place is below k; none of them has a deficit, and one has something in excess
pub record IsPlacedCut (g : Graph) (s : State) (place : ℕ → ℕ) (k : ℕ) : Type 0 where
  pub closed : (a : ℕ) → a < g.arcs → place (g.tail a) < k → k ≤ place (g.head a) → s.flow a ≡ g.limit a
  pub no_deficit : (v : ℕ) → v < g.nodes → place v < k → pos 0 ≤ℤ s.excess v
  pub some : (v : ℕ) × (v < g.nodes) × (place v < k) × (pos 0 <ℤ s.excess v)

-- no node has an excess or a deficit, or a set of nodes has more than can leave it
abbrev pub Outcome : Graph → State → (ℕ → ℕ) → Result (Unit {0}) Infeasible → Type 0
Outcome g s place (Ok _) = (v : ℕ) → v < g.nodes → s.excess v ≡ pos 0
Outcome g s place (Err infeasible) = IsPlacedCut g s place infeasible.nodes

-- What the solver leaves of supplies e: a pseudoflow and potentials, of at most 2 n C, that are optimal together. No arc's flow, and nothing
-- that leaves a node or comes to it, has grown by more than the units that went since the initial flow. The supplies are met, or a cut shows
-- that no flow meets them.
pub record IsSolution (g : Graph) (e : ℕ → ℤ) (s : State) (place : ℕ → ℕ) (r : Result (Unit {0}) Infeasible) : Type 0 where
  pub flows : IsPseudoflow g s.flow
  pub priced : IsReducedCostOptimal g s.flow s.potential
  pub bounded : (v : ℕ) → v < g.nodes → unsigned_abs (s.potential v) ≤ 2 ^ 31 * g.nodes
  pub supplies : (v : ℕ) → v < g.nodes → supply g s v ≡ e v
  pub moved : (a : ℕ) → a < g.arcs → (pos (unsigned_abs (s.flow a)) +ℤ pos (total_excess g s)) ≤ℤ with_all_units g e (pos (unsigned_abs (initial_flow g a)))
  pub leaves : (v : ℕ) → (outgoing g s.flow v +ℤ pos (total_excess g s)) ≤ℤ with_all_units g e (outgoing g (initial_flow g) v)
  pub comes : (v : ℕ) → (incoming g s.flow v +ℤ pos (total_excess g s)) ≤ℤ with_all_units g e (incoming g (initial_flow g) v)
  pub answer : Outcome g s place r

-- the flow meets the supplies, and none that does costs less; or none meets them
abbrev pub IsOptimal : Graph → (ℕ → ℤ) → (ℕ → ℤ) → Result (Unit {0}) Infeasible → Type 0
IsOptimal g e x (Ok _) = Meets g x e × ((y : ℕ → ℤ) → IsPseudoflow g y → Meets g y e → total_cost g x ≤ℤ total_cost g y)
IsOptimal g e x (Err _) = (y : ℕ → ℤ) → IsPseudoflow g y → Meets g y e → ⊥

-- the second answer does not come where arcs whose limits take all supplies join every two nodes
abbrev pub AlwaysFeasible : Type 0
AlwaysFeasible =
    (g : Graph) → IsNetwork g → (e : ℕ → ℤ) → sum_ℤ g.nodes e ≡ pos 0 →
    ((u v : ℕ) → u < g.nodes → v < g.nodes → Joined g (pos (sum_to g.nodes (λ w. up (e w)))) u v) →
    (s : State) (place : ℕ → ℕ) (infeasible : Infeasible) → IsPseudoflow g s.flow →
    ((v : ℕ) → v < g.nodes → supply g s v ≡ e v) → IsPlacedCut g s place infeasible.nodes → ⊥
