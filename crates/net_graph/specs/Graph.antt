-- Networks as functions of node and arc numbers: what lists of arcs say, when they are well-formed, and what a flow is.
use Rattle.std.specs.Prelude.{◌≡◌, ℕ, ◌+◌, ◌-◌, ◌^◌, ◌<◌, ◌≤◌, List, length, ℤ, pos, ◌+ℤ◌, ◌-ℤ◌, neg_ℤ, ◌≤ℤ◌, ◌<ℤ◌, if◌then◌else◌, ◌==◌, int_lt, slice_index, slice_index_or, unsigned_abs}
use Rattle.sums.specs.Sum.{sum_ℤ}
use Rattle.net_graph.specs.declared.arc.Arc.{Arc}

-- arcs in pairs, the two directions of an edge, grouped by their tails: those of node v are first v up to below first (v + 1)
pub record Graph : Type 0 where
  pub nodes : ℕ
  pub arcs : ℕ
  pub first : ℕ → ℕ
  pub tail : ℕ → ℕ
  pub head : ℕ → ℕ
  pub pair : ℕ → ℕ
  pub cost : ℕ → ℤ
  pub limit : ℕ → ℤ

-- what is read past the end of a list of arcs
abbrev pub no_arc : Arc
no_arc = record { tail = 0; head = 0; pair = 0; cost = pos 0; limit = pos 0 }

-- what a list of where the arcs of each node begin, with one end more, and a list of arcs say
abbrev pub graph_of : List ℕ → List Arc → Graph
graph_of first arcs =
    record {
      nodes = length first - 1;
      arcs = length arcs;
      first = λ v. slice_index first v;
      tail = λ a. (slice_index_or arcs a no_arc).tail;
      head = λ a. (slice_index_or arcs a no_arc).head;
      pair = λ a. (slice_index_or arcs a no_arc).pair;
      cost = λ a. (slice_index_or arcs a no_arc).cost;
      limit = λ a. (slice_index_or arcs a no_arc).limit;
    }

-- z at k, and nothing elsewhere
abbrev pub at : ℕ → ℤ → ℕ → ℤ
at k z i = if i == k then z else pos 0

-- ---- what makes a network well-formed

-- arc a lies among those of its tail; its pair is the same edge in the other direction; a unit there and back costs nothing or more
pub record IsArc (g : Graph) (a : ℕ) : Type 0 where
  pub tail : g.tail a < g.nodes
  pub head : g.head a < g.nodes
  pub from : g.first (g.tail a) ≤ a
  pub below : a < g.first (g.tail a + 1)
  pub pair : g.pair a < g.arcs
  pub back : g.pair (g.pair a) ≡ a
  pub apart : g.pair a ≡ a → ⊥
  pub turned : g.tail (g.pair a) ≡ g.head a
  pub cheap : unsigned_abs (g.cost a) ≤ 2 ^ 30
  pub allowed : pos 0 ≤ℤ g.limit a
  pub limited : g.limit a ≤ℤ pos (2 ^ 60)
  pub convex : pos 0 ≤ℤ (g.cost a +ℤ g.cost (g.pair a))

-- the capacity of an arc of negative cost, and 0 of all others
abbrev pub negative_arc_capacity : Graph → ℕ → ℤ
negative_arc_capacity g a = if int_lt (g.cost a) (pos 0) then g.limit a else pos 0

pub record IsNetwork (g : Graph) : Type 0 where
  pub few_nodes : g.nodes ≤ 2 ^ 28
  pub few_arcs : g.arcs ≤ 2 ^ 32
  pub rises : (v : ℕ) → v < g.nodes → g.first v ≤ g.first (v + 1)
  pub ends : g.first g.nodes ≤ g.arcs
  pub arc : (a : ℕ) → a < g.arcs → IsArc g a
  pub gained : sum_ℤ g.arcs (negative_arc_capacity g) ≤ℤ pos (2 ^ 59)

pub record WellFormed (first : List ℕ) (arcs : List Arc) : Type 0 where
  pub some : 1 ≤ length first
  pub laws : IsNetwork (graph_of first arcs)

-- ---- flows

-- one unit more along arc a costs so much
abbrev pub unit_cost : Graph → (ℕ → ℤ) → ℕ → ℤ
unit_cost g x a = if int_lt (x a) (pos 0) then neg_ℤ (g.cost (g.pair a)) else (g.cost a)

-- so much goes along arc a before a unit more costs another amount, or nothing more goes
abbrev pub residual_capacity : Graph → (ℕ → ℤ) → ℕ → ℤ
residual_capacity g x a = if int_lt (x a) (pos 0) then neg_ℤ (x a) else g.limit a -ℤ x a

abbrev pub reduced_cost : Graph → (ℕ → ℤ) → (ℕ → ℤ) → ℕ → ℤ
reduced_cost g x p a = (unit_cost g x a +ℤ p (g.tail a)) -ℤ p (g.head a)

-- what leaves node v in all; what comes in counts as outgoing with the other sign
unfoldable pub outflow : Graph → (ℕ → ℤ) → ℕ → ℤ
outflow g x v = sum_ℤ g.arcs (λ a. if g.tail a == v then x a else pos 0)

-- Opposite on the two arcs of a pair, and within the limits: a flow that need not meet any supplies.
pub record IsPseudoflow (g : Graph) (x : ℕ → ℤ) : Type 0 where
  pub opposite : (a : ℕ) → a < g.arcs → x (g.pair a) ≡ neg_ℤ (x a)
  pub within : (a : ℕ) → a < g.arcs → x a ≤ℤ g.limit a

-- every arc with residual capacity has a reduced cost of at least 0
abbrev pub IsReducedCostOptimal : Graph → (ℕ → ℤ) → (ℕ → ℤ) → Type 0
IsReducedCostOptimal g x p = (a : ℕ) → a < g.arcs → x a <ℤ g.limit a → pos 0 ≤ℤ reduced_cost g x p a
