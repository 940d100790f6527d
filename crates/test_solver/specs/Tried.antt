-- What the solver answers where its lists and slices are tested first.
use Rattle.std.specs.Prelude.{◌≡◌, length, slice_index_or, pos, Result, Ok, Err}
use Rattle.net_graph.specs.Graph.{Graph, WellFormed}
use Rattle.net_graph.specs.Node.{excess_of, potential_of}
use Rattle.net_graph.specs.Sound.{State}
use Rattle.net_search.specs.Label.{place_of}
use Rattle.test_solver.specs.Lists.{graph}
use Rattle.test_solver.specs.declared.lists.Lists.{Lists}
use Rattle.net_solve.specs.Promise.{IsSolution, IsOptimal}
use Rattle.net_solve.specs.Promise.{Balanced}
use Rattle.net_solve.specs.declared.infeasible.Infeasible.{Infeasible}
use Rattle.test_solver.specs.declared.checked.Slices.{Slices}
use Rattle.test_solver.specs.declared.checked.Refusal.{Refusal}
use Rattle.test_solver.specs.declared.checked.Refusal.TheVariants as refusal

-- the slices are as long as the network asks
pub record Fitting (g : Graph) (s : Slices) : Type 0 where
  pub flow : length s.flow.now ≡ g.arcs
  pub nodes : length s.nodes.now ≡ g.nodes
  pub labels : length s.labels.now ≡ g.nodes
  pub order : length s.order.now ≡ g.nodes
  pub frontier : length s.frontier.now ≡ g.nodes

abbrev pub state : Slices → State
state s =
    record {
      flow = λ a. slice_index_or s.flow.now a (pos 0);
      excess = excess_of s.nodes.now;
      potential = potential_of s.nodes.now;
    }

-- the slices are those that were lent
pub record SameLoans (s s' : Slices) : Type 0 where
  pub flow : s'.flow.ghost_name ≡ s.flow.ghost_name
  pub nodes : s'.nodes.ghost_name ≡ s.nodes.ghost_name
  pub labels : s'.labels.ghost_name ≡ s.labels.ghost_name
  pub order : s'.order.ghost_name ≡ s.order.ghost_name
  pub frontier : s'.frontier.ghost_name ≡ s.frontier.ghost_name

-- what `solve` promises
pub record Done (l : Lists) (s s' : Slices) (r : Result (Unit {0}) Infeasible) : Type 0 where
  pub solution : IsSolution (graph l) (state s).excess (state s') (place_of s'.labels.now) r
  pub optimal : IsOptimal (graph l) (state s).excess (state s').flow r

-- what was asked of the supplies is done, or why not is said
abbrev pub Tried : Lists → Slices → Slices → Result (Unit {0}) Refusal → Type 0
Tried l s s' (Ok u) = Done l s s' (Ok u)
Tried l s s' (Err (refusal.Infeasible infeasible)) = Done l s s' (Err infeasible)
Tried l s s' (Err refusal.Network) = WellFormed l.first.now l.arcs.now → ⊥
Tried l s s' (Err refusal.Length) = Fitting (graph l) s → ⊥
Tried l s s' (Err refusal.Supplies) = Balanced (graph l).nodes (state s).excess → ⊥

-- nothing was tried
abbrev pub Refused : Result (Unit {0}) Refusal → Type 0
Refused (Ok _) = ⊥
Refused (Err (refusal.Infeasible _)) = ⊥
Refused (Err refusal.Network) = Unit {0}
Refused (Err refusal.Length) = Unit {0}
Refused (Err refusal.Supplies) = Unit {0}
