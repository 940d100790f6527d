-- What holds between the steps of the solver.
use Rattle.std.specs.Prelude.{◌≡◌, ℕ, ◌<◌, ℤ, pos, ◌+ℤ◌, ◌≤ℤ◌, if◌then◌else◌, nat_eq}
use Rattle.sums.specs.Sum.{sum_ℤ}
use Rattle.net_graph.specs.Graph.{Graph, negative_arc_capacity}
use Rattle.net_graph.specs.Network.{graph}
use Rattle.net_graph.specs.Sound.{State, state, Sound, supply, total_excess, Later}
use Rattle.net_graph.specs.declared.flow.Flow.{Flow}
use Rattle.net_search.specs.Tree.{SameSlices}
use Rattle.net_search.specs.declared.search.Search.{Search}
use Rattle.net_solve.specs.Promise.{SameFlow, initial_flow}

-- from a flow and a search to later ones: the flow is sound, and a node with nothing in excess has got nothing
pub record Progress (f : Flow) (q : Search) (f' : Flow) (q' : Search) : Type 0 where
  pub same : SameFlow f f'
  pub slices : SameSlices q q'
  pub sound : Sound (graph f.net) (state f')
  pub later : Later (graph f.net) (state f) (state f')
  pub quiet : (v : ℕ) → v < (graph f.net).nodes → (state f).excess v ≤ℤ pos 0 → (state f').excess v ≤ℤ pos 0

-- what leaves node v in the initial flow by the arcs below k
abbrev pub initial_outflow : Graph → ℕ → ℕ → ℤ
initial_outflow g v k = sum_ℤ k (λ a. if nat_eq (g.tail a) v then initial_flow g a else pos 0)

-- from the supplies, which are all in excess, to the initial flow
pub record IsInitial (g : Graph) (e : ℕ → ℤ) (before : ℕ) (s : State) : Type 0 where
  pub sound : Sound g s
  pub flow : (a : ℕ) → a < g.arcs → s.flow a ≡ initial_flow g a
  pub supplies : (v : ℕ) → v < g.nodes → supply g s v ≡ e v
  pub few : pos (total_excess g s) ≤ℤ (pos before +ℤ sum_ℤ g.arcs (negative_arc_capacity g))
