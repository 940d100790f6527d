-- The state of a solver: a flow, what each node has in excess of it, and potentials.
use Rattle.std.specs.Prelude.{◌≡◌, ℕ, ◌+◌, ◌*◌, ◌^◌, ◌<◌, ◌≤◌, if◌then◌else◌, ◌==◌, ℤ, pos, ◌+ℤ◌, ◌-ℤ◌, neg_ℤ, ◌≤ℤ◌, ◌<ℤ◌, slice_index_or, unsigned_abs}
use borrow.Author.Differences.{up}
use Rattle.sums.specs.Sum.{sum_to, sum_ℤ}
use Rattle.net_graph.specs.Graph.{Graph, at, outflow, IsPseudoflow, IsReducedCostOptimal}
use Rattle.net_graph.specs.Node.{excess_of, potential_of}
use Rattle.net_graph.specs.declared.flow.Flow.{Flow}

pub record State : Type 0 where
  pub flow : ℕ → ℤ
  pub excess : ℕ → ℤ
  pub potential : ℕ → ℤ

abbrev pub state : Flow → State
state f =
    record {
      flow = λ a. slice_index_or f.flow.now a (pos 0);
      excess = excess_of f.nodes.now;
      potential = potential_of f.nodes.now;
    }

-- the units that are still to go somewhere
unfoldable pub total_excess : Graph → State → ℕ
total_excess g s = sum_to g.nodes (λ v. up (s.excess v))

-- what holds between any two steps of the solver
pub record Sound (g : Graph) (s : State) : Type 0 where
  pub flows : IsPseudoflow g s.flow
  pub priced : IsReducedCostOptimal g s.flow s.potential
  pub deficit : (v : ℕ) → v < g.nodes → s.excess v <ℤ pos 0 → s.potential v ≡ pos 0
  pub bounded : (v : ℕ) → v < g.nodes → unsigned_abs (s.potential v) ≤ 2 ^ 31 * g.nodes
  pub even : sum_ℤ g.nodes s.excess ≡ pos 0
  pub few : total_excess g s ≤ 2 ^ 60

-- the supply of each node is what it has in excess and what leaves it
abbrev pub supply : Graph → State → ℕ → ℤ
supply g s v = s.excess v +ℤ outflow g s.flow v

-- what leaves node v along arcs on which something leaves it
unfoldable pub outgoing : Graph → (ℕ → ℤ) → ℕ → ℤ
outgoing g x v = sum_ℤ g.arcs (λ a. if g.tail a == v then pos (up (x a)) else pos 0)

-- what comes to it along the others
unfoldable pub incoming : Graph → (ℕ → ℤ) → ℕ → ℤ
incoming g x v = sum_ℤ g.arcs (λ a. if g.tail a == v then pos (up (neg_ℤ (x a))) else pos 0)

-- From one state to a later one: supplies stay, and neither an arc's flow, in either direction, nor what leaves a node or comes to it has grown by more than
-- the units that have gone.
pub record Later (g : Graph) (s t : State) : Type 0 where
  pub supplies : (v : ℕ) → v < g.nodes → supply g t v ≡ supply g s v
  pub moved : (a : ℕ) → a < g.arcs → unsigned_abs (t.flow a) + total_excess g t ≤ unsigned_abs (s.flow a) + total_excess g s
  pub leaves : (v : ℕ) → (outgoing g t.flow v +ℤ pos (total_excess g t)) ≤ℤ (outgoing g s.flow v +ℤ pos (total_excess g s))
  pub comes : (v : ℕ) → (incoming g t.flow v +ℤ pos (total_excess g t)) ≤ℤ (incoming g s.flow v +ℤ pos (total_excess g s))

-- d units have gone along arc a
pub record Pushed (g : Graph) (s t : State) (a : ℕ) (d : ℤ) : Type 0 where
  pub flow : (b : ℕ) → t.flow b ≡ ((s.flow b +ℤ at a d b) -ℤ at (g.pair a) d b)
  pub excess : (v : ℕ) → t.excess v ≡ ((s.excess v -ℤ at (g.tail a) d v) +ℤ at (g.head a) d v)
  pub potential : (v : ℕ) → t.potential v ≡ s.potential v
