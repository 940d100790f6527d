-- The initial flow is sound.
use Rattle.std.proofs.Common.{◌≡◌, ℕ, ◌+◌, ◌^◌, ◌<◌, ◌≤◌, Bool, true, false, cond, eqb, ◌⊎◌, ℤ, pos, ◌+ℤ◌, ◌-ℤ◌, neg_ℤ, nat_abs, ◌≤ℤ◌, ◌<ℤ◌, sym, ap, ◌∙◌, inl, inr, arith, Result, List, length, if◌then◌else◌, nat_eq, slice_set}
use lib.Signed.{lt_z}
use borrow.Author.Differences.{up}
use Rattle.std.proofs.lemmas.Int.{ints}
use Rattle.std.proofs.lemmas.Bool.{eq-eqb, ne_eqb, cases_eq, cond-true, cond-false}
use Rattle.sums.specs.Sum.{sum_ℤ, sum_to}
use Rattle.sums.proofs.Sum.{member_le_sum, sum_le, sum_longer, sum_ℤ_ext, sum_ℤ_le, sum_ℤ_add, sum_ℤ_neg, sum_ℤ_sub, sum_ℤ_pos, sum_ℤ_nonneg, nat_abs_sum_ℤ}
use Rattle.sums.proofs.Points.{sum_by, sum_paired}
use Rattle.std.proofs.lemmas.List.{get_or-set_same, get_or-set_other}
use Rattle.net_graph.specs.Node.{excess_of, no_node}
use Rattle.net_graph.specs.declared.node.Node.{Node}
use Rattle.net_graph.specs.Graph.{Graph, IsNetwork, negative_arc_capacity, outflow, IsPseudoflow, IsReducedCostOptimal}
use Rattle.net_graph.specs.Sound.{State, Sound, total_excess, outgoing, incoming, Later}
use Rattle.net_graph.proofs.Points.{cases_lt_ℤ, lt_yes, lt_no, unit_forward, unit_backward}
use Rattle.net_search.proofs.PathPush.{up_none, up_some, parts}
use Rattle.sums.proofs.Loop.{sum_ℤ_more}
use Rattle.net_solve.specs.Promise.{Outcome, IsSolution}
use Rattle.net_solve.specs.declared.infeasible.Infeasible.{Infeasible}
use Rattle.net_solve.specs.Promise.{initial_flow, Balanced}
use Rattle.net_solve.specs.Inner.{initial_outflow, IsInitial}

gains_yes : (g : Graph) (a : ℕ) → g.cost a <ℤ pos 0 → negative_arc_capacity g a ≡ g.limit a
gains_yes g a h = cond-true (lt_z (g.cost a) (pos 0)) (g.limit a) (pos 0) (lt_yes (g.cost a) (pos 0) h)

gains_no : (g : Graph) (a : ℕ) → pos 0 ≤ℤ g.cost a → negative_arc_capacity g a ≡ pos 0
gains_no g a h = cond-false (lt_z (g.cost a) (pos 0)) (g.limit a) (pos 0) (lt_no (g.cost a) (pos 0) h)

pub supply_small : (n : ℕ) (e : ℕ → ℤ) → Balanced n e → (v : ℕ) → v < n → nat_abs (e v) ≤ 2 ^ 59
supply_small n e b v h = elim (cases_lt_ℤ (e v) (pos 0)) [
  | inl l ↦ omega (arith, ints, up_some (neg_ℤ (e v)) (omega (arith, ints)), member_le_sum n v (λ w. up (neg_ℤ (e w))) h, parts n e, b.even, b.few)
  | inr l ↦ omega (arith, ints, up_some (e v) l, member_le_sum n v (λ w. up (e w)) h, b.few)
]

-- what is taken at one node
taken : (nodes : List Node) (u v : ℕ) (m : Node) (x : ℤ) → u < length nodes → m.excess ≡ (excess_of nodes u -ℤ x) → excess_of (slice_set nodes u m) v ≡ (excess_of nodes v -ℤ (if nat_eq u v then x else pos 0))
taken nodes u v m x l e = elim (cases_eq v u) [
  | inl q ↦ omega (arith, ints, e, ap (λ (w : ℕ). excess_of (slice_set nodes u m) w) q, ap (λ (w : ℕ). excess_of nodes w) q, ap (λ (n : Node). n.excess) (get_or-set_same nodes u m no_node l), cond-true (eqb u v) x (pos 0) (eq-eqb u v (sym q)))
  | inr n ↦ omega (arith, ints, ap (λ (n : Node). n.excess) (get_or-set_other nodes u v m no_node n), cond-false (eqb u v) x (pos 0) (ne_eqb u v (λ q. n (sym q))))
]

-- so far, with arc a
pub taken_here : (g : Graph) (a v : ℕ) (nodes : List Node) (m : Node) (before : ℤ)
    → excess_of nodes v ≡ (before -ℤ initial_outflow g v a)
    → g.tail a < length nodes → m.excess ≡ (excess_of nodes (g.tail a) -ℤ initial_flow g a)
    → excess_of (slice_set nodes (g.tail a) m) v ≡ (before -ℤ initial_outflow g v (a + 1))
taken_here g a v nodes m before h l e = omega (arith, ints, h, taken nodes (g.tail a) v m (initial_flow g a) l e, sum_ℤ_more a (λ b. if nat_eq (g.tail b) v then initial_flow g b else pos 0))

module _ (g : Graph) (w : IsNetwork g) where
  -- the first flow of an arc: its own limit, less the limit of its pair, by which of them costs less than nothing
  pub started_is : (a : ℕ) → a < g.arcs → initial_flow g a ≡ (negative_arc_capacity g a -ℤ negative_arc_capacity g (g.pair a))
  started_is a h = elim (cases_lt_ℤ (g.cost a) (pos 0)) [
    | inl l ↦ omega (arith, ints, cond-true (lt_z (g.cost a) (pos 0)) (g.limit a) else_part (lt_yes (g.cost a) (pos 0) l), gains_yes g a l, gains_no g (g.pair a) (omega (arith, ints, (w.arc a h).convex)))
    | inr l ↦ elim (cases_lt_ℤ (g.cost (g.pair a)) (pos 0)) [
      | inl m ↦ omega (arith, ints, no_own l, cond-true (lt_z (g.cost (g.pair a)) (pos 0)) (neg_ℤ (g.limit (g.pair a))) (pos 0) (lt_yes (g.cost (g.pair a)) (pos 0) m), gains_no g a l, gains_yes g (g.pair a) m)
      | inr m ↦ omega (arith, ints, no_own l, cond-false (lt_z (g.cost (g.pair a)) (pos 0)) (neg_ℤ (g.limit (g.pair a))) (pos 0) (lt_no (g.cost (g.pair a)) (pos 0) m), gains_no g a l, gains_no g (g.pair a) m)
    ]
  ]
    where
      else_part : ℤ
      else_part = cond (lt_z (g.cost (g.pair a)) (pos 0)) (neg_ℤ (g.limit (g.pair a))) (pos 0)

      no_own : pos 0 ≤ℤ g.cost a → initial_flow g a ≡ else_part
      no_own l = cond-false (lt_z (g.cost a) (pos 0)) (g.limit a) else_part (lt_no (g.cost a) (pos 0) l)

  gains_some : (a : ℕ) → a < g.arcs → pos 0 ≤ℤ negative_arc_capacity g a
  gains_some a h = elim (cases_lt_ℤ (g.cost a) (pos 0)) [
    | inl l ↦ omega (arith, ints, gains_yes g a l, (w.arc a h).allowed)
    | inr l ↦ omega (arith, ints, gains_no g a l)
  ]

  gains_most : (a : ℕ) → a < g.arcs → negative_arc_capacity g a ≤ℤ g.limit a
  gains_most a h = elim (cases_lt_ℤ (g.cost a) (pos 0)) [
    | inl l ↦ omega (arith, ints, gains_yes g a l)
    | inr l ↦ omega (arith, ints, gains_no g a l, (w.arc a h).allowed)
  ]

  paired : (f : ℕ → ℤ) → sum_ℤ g.arcs (λ a. f (g.pair a)) ≡ sum_ℤ g.arcs f
  paired f = sum_paired g.arcs g.pair f (λ a h. (w.arc a h).pair) (λ a h. (w.arc a h).back)

  -- all that goes at first, both directions of each edge counted
  in_all : sum_to g.arcs (λ a. nat_abs (initial_flow g a)) ≤ 2 ^ 60
  in_all =
      omega (arith, ints, sum_ℤ_pos g.arcs (λ a. nat_abs (initial_flow g a)), sum_ℤ_le g.arcs (λ a. pos (nat_abs (initial_flow g a))) (λ a. negative_arc_capacity g a +ℤ negative_arc_capacity g (g.pair a)) each, sum_ℤ_add g.arcs (negative_arc_capacity g) (λ a. negative_arc_capacity g (g.pair a)), paired (negative_arc_capacity g), w.gained)
    where
      each : (a : ℕ) → a < g.arcs → pos (nat_abs (initial_flow g a)) ≤ℤ (negative_arc_capacity g a +ℤ negative_arc_capacity g (g.pair a))
      each a h = omega (arith, ints, started_is a h, gains_some a h, gains_some (g.pair a) (w.arc a h).pair)

  at_node : ℕ → ℕ → ℤ
  at_node v a = cond (eqb (g.tail a) v) (initial_flow g a) (pos 0)

  -- what has left a node when the first k arcs are filled
  pub partly : (v k : ℕ) → k ≤ g.arcs → nat_abs (sum_ℤ k (λ a. cond (eqb (g.tail a) v) (initial_flow g a) (pos 0))) ≤ 2 ^ 60
  partly v k h =
      omega (arith, nat_abs_sum_ℤ k (λ a. cond (eqb (g.tail a) v) (initial_flow g a) (pos 0)), sum_le k (λ a. nat_abs (cond (eqb (g.tail a) v) (initial_flow g a) (pos 0))) (λ a. nat_abs (initial_flow g a)) (λ a l. part a (cases_eq (g.tail a) v)), sum_longer k g.arcs (λ a. nat_abs (initial_flow g a)) h, in_all)
    where
      part : (a : ℕ) → (g.tail a ≡ v) ⊎ (g.tail a ≡ v → ⊥) → nat_abs (cond (eqb (g.tail a) v) (initial_flow g a) (pos 0)) ≤ nat_abs (initial_flow g a)
      part a (inl e) = omega (arith, ap nat_abs (cond-true (eqb (g.tail a) v) (initial_flow g a) (pos 0) (eq-eqb (g.tail a) v e)))
      part a (inr n) = omega (arith, ap nat_abs (cond-false (eqb (g.tail a) v) (initial_flow g a) (pos 0) (ne_eqb (g.tail a) v n)))

  pub started_small : (a : ℕ) → a < g.arcs → nat_abs (initial_flow g a) ≤ 2 ^ 60
  started_small a h = omega (arith, ints, started_is a h, gains_some a h, gains_some (g.pair a) (w.arc a h).pair, gains_most a h, gains_most (g.pair a) (w.arc a h).pair, (w.arc a h).limited, (w.arc (g.pair a) (w.arc a h).pair).limited)

  -- from here on: a state with that flow, no potentials, and the rest of the supplies in excess
  module _ (e : ℕ → ℤ) (s : State) (flow : (a : ℕ) → a < g.arcs → s.flow a ≡ initial_flow g a) (no_potential : (v : ℕ) → v < g.nodes → s.potential v ≡ pos 0) (excess : (v : ℕ) → v < g.nodes → s.excess v ≡ (e v -ℤ sum_ℤ g.arcs (λ a. cond (eqb (g.tail a) v) (initial_flow g a) (pos 0))))
      (even : sum_ℤ g.nodes e ≡ pos 0) (few : sum_to g.nodes (λ v. up (e v)) ≤ 2 ^ 59) where
    x_is : (a : ℕ) → a < g.arcs → s.flow a ≡ (negative_arc_capacity g a -ℤ negative_arc_capacity g (g.pair a))
    x_is a h = flow a h ∙ started_is a h

    flows : IsPseudoflow g s.flow
    flows =
        record {
          opposite = λ a h. omega (arith, ints, x_is a h, x_is (g.pair a) (w.arc a h).pair, ap (negative_arc_capacity g) (w.arc a h).back);
          within = λ a h. omega (arith, ints, x_is a h, gains_most a h, gains_some (g.pair a) (w.arc a h).pair);
        }

    priced : IsReducedCostOptimal g s.flow s.potential
    priced a h f = elim (cases_lt_ℤ (g.cost a) (pos 0)) [
      | inl l ↦ absurd (omega (arith, ints, f, x_is a h, gains_yes g a l, gains_no g (g.pair a) (omega (arith, ints, (w.arc a h).convex))))
      | inr l ↦ elim (cases_lt_ℤ (s.flow a) (pos 0)) [
        | inl m ↦ elim (cases_lt_ℤ (g.cost (g.pair a)) (pos 0)) [
          | inl n ↦ omega (arith, ints, unit_backward g s.flow a m, no_potential (g.tail a) (w.arc a h).tail, no_potential (g.head a) (w.arc a h).head)
          | inr n ↦ absurd (omega (arith, ints, m, x_is a h, gains_no g a l, gains_no g (g.pair a) n))
        ]
        | inr m ↦ omega (arith, ints, unit_forward g s.flow a m, no_potential (g.tail a) (w.arc a h).tail, no_potential (g.head a) (w.arc a h).head)
      ]
    ]

    out_is : (v : ℕ) → outflow g s.flow v ≡ sum_ℤ g.arcs (λ a. cond (eqb (g.tail a) v) (initial_flow g a) (pos 0))
    unfolding outflow
    out_is v = sum_ℤ_ext g.arcs (λ a. cond (eqb (g.tail a) v) (s.flow a) (pos 0)) (λ a. cond (eqb (g.tail a) v) (initial_flow g a) (pos 0)) (λ a h. ap (λ (z : ℤ). cond (eqb (g.tail a) v) z (pos 0)) (flow a h))

    -- what leaves nodes in all is nothing
    none_in_all : sum_ℤ g.nodes (λ v. sum_ℤ g.arcs (λ a. cond (eqb (g.tail a) v) (initial_flow g a) (pos 0))) ≡ pos 0
    none_in_all =
        omega (arith, ints, sum_by g.arcs g.nodes g.tail (λ a v. initial_flow g a) (λ a h. (w.arc a h).tail), sum_ℤ_ext g.arcs (initial_flow g) (λ a. negative_arc_capacity g a -ℤ negative_arc_capacity g (g.pair a)) started_is, sum_ℤ_sub g.arcs (negative_arc_capacity g) (λ a. negative_arc_capacity g (g.pair a)), paired (negative_arc_capacity g))

    even' : sum_ℤ g.nodes s.excess ≡ pos 0
    even' =
        omega (arith, ints, sum_ℤ_ext g.nodes s.excess (λ v. e v -ℤ sum_ℤ g.arcs (λ a. cond (eqb (g.tail a) v) (initial_flow g a) (pos 0))) excess, sum_ℤ_sub g.nodes e (λ v. sum_ℤ g.arcs (λ a. cond (eqb (g.tail a) v) (initial_flow g a) (pos 0))), none_in_all, even)

    -- what comes in at a node is no more than the negative arcs at it take
    abbrev inflow : ℕ → ℤ
    inflow v = sum_ℤ g.arcs (λ a. cond (eqb (g.tail a) v) (negative_arc_capacity g (g.pair a)) (pos 0))

    pick_le : (t : Bool) (y z : ℤ) → neg_ℤ y ≤ℤ z → pos 0 ≤ℤ z → (neg_ℤ (cond t y (pos 0)) ≤ℤ cond t z (pos 0)) × (pos 0 ≤ℤ cond t z (pos 0))
    pick_le true y z h p = (h, p)
    pick_le false y z h p = (omega (arith, ints), omega (arith, ints))

    comes_in : (v : ℕ) → (neg_ℤ (sum_ℤ g.arcs (λ a. cond (eqb (g.tail a) v) (initial_flow g a) (pos 0))) ≤ℤ inflow v) × (pos 0 ≤ℤ inflow v)
    comes_in v = (
      omega (arith, ints, sum_ℤ_neg g.arcs (λ a. cond (eqb (g.tail a) v) (initial_flow g a) (pos 0)), sum_ℤ_le g.arcs (λ a. neg_ℤ (cond (eqb (g.tail a) v) (initial_flow g a) (pos 0))) (λ a. cond (eqb (g.tail a) v) (negative_arc_capacity g (g.pair a)) (pos 0)) (λ a h. (each a h).0)),
      sum_ℤ_nonneg g.arcs (λ a. cond (eqb (g.tail a) v) (negative_arc_capacity g (g.pair a)) (pos 0)) (λ a h. (each a h).1),
    )
      where
        each : (a : ℕ) → a < g.arcs → (neg_ℤ (cond (eqb (g.tail a) v) (initial_flow g a) (pos 0)) ≤ℤ cond (eqb (g.tail a) v) (negative_arc_capacity g (g.pair a)) (pos 0)) × (pos 0 ≤ℤ cond (eqb (g.tail a) v) (negative_arc_capacity g (g.pair a)) (pos 0))
        each a h = pick_le (eqb (g.tail a) v) (initial_flow g a) (negative_arc_capacity g (g.pair a)) (omega (arith, ints, started_is a h, gains_some a h)) (gains_some (g.pair a) (w.arc a h).pair)

    up_le : (z y i : ℤ) → z ≤ℤ (pos (up y) +ℤ i) → pos 0 ≤ℤ i → pos (up z) ≤ℤ (pos (up y) +ℤ i)
    up_le z y i h p = elim (cases_lt_ℤ z (pos 0)) [
      | inl l ↦ omega (arith, ints, up_none z (omega (arith, ints, l)))
      | inr l ↦ omega (arith, ints, up_some z l)
    ]

    below_up : (y : ℤ) → y ≤ℤ pos (up y)
    below_up y = elim (cases_lt_ℤ y (pos 0)) [
      | inl l ↦ omega (arith, ints)
      | inr l ↦ omega (arith, ints, up_some y l)
    ]

    few' : pos (total_excess g s) ≤ℤ (pos (sum_to g.nodes (λ v. up (e v))) +ℤ sum_ℤ g.arcs (negative_arc_capacity g))
    unfolding total_excess
    few' =
        omega (arith, ints, sum_ℤ_pos g.nodes (λ v. up (s.excess v)), sum_ℤ_pos g.nodes (λ v. up (e v)), sum_ℤ_le g.nodes (λ v. pos (up (s.excess v))) (λ v. pos (up (e v)) +ℤ inflow v) each, sum_ℤ_add g.nodes (λ v. pos (up (e v))) inflow, sum_by g.arcs g.nodes g.tail (λ a v. negative_arc_capacity g (g.pair a)) (λ a h. (w.arc a h).tail), paired (negative_arc_capacity g))
      where
        each : (v : ℕ) → v < g.nodes → pos (up (s.excess v)) ≤ℤ (pos (up (e v)) +ℤ inflow v)
        each v h = up_le (s.excess v) (e v) (inflow v) (omega (arith, ints, excess v h, below_up (e v), (comes_in v).0)) (comes_in v).1

    pub starts : IsInitial g e (sum_to g.nodes (λ v. up (e v))) s
    starts =
        record {
          sound =
              record {
                flows = flows;
                priced = priced;
                deficit = λ v h q. no_potential v h;
                bounded = λ v h. rw (no_potential v h) (omega arith);
                even = even';
                few = omega (arith, ints, few', few, w.gained);
              };
          flow = flow;
          supplies = λ v h. omega (arith, ints, excess v h, out_is v);
          few = few';
        }

leaving_ext : (g : Graph) (x y : ℕ → ℤ) (v : ℕ) → ((a : ℕ) → a < g.arcs → x a ≡ y a) → outgoing g x v ≡ outgoing g y v
unfolding outgoing
leaving_ext g x y v h = sum_ℤ_ext g.arcs (λ a. cond (eqb (g.tail a) v) (pos (up (x a))) (pos 0)) (λ a. cond (eqb (g.tail a) v) (pos (up (y a))) (pos 0)) (λ a l. ap (λ (z : ℤ). cond (eqb (g.tail a) v) (pos (up z)) (pos 0)) (h a l))

coming_ext : (g : Graph) (x y : ℕ → ℤ) (v : ℕ) → ((a : ℕ) → a < g.arcs → x a ≡ y a) → incoming g x v ≡ incoming g y v
unfolding incoming
coming_ext g x y v h = sum_ℤ_ext g.arcs (λ a. cond (eqb (g.tail a) v) (pos (up (neg_ℤ (x a)))) (pos 0)) (λ a. cond (eqb (g.tail a) v) (pos (up (neg_ℤ (y a)))) (pos 0)) (λ a l. ap (λ (z : ℤ). cond (eqb (g.tail a) v) (pos (up (neg_ℤ z))) (pos 0)) (h a l))

-- from the first flow to what the solver promises
pub solved : (g : Graph) (e : ℕ → ℤ) (s s' : State) (place : ℕ → ℕ) (r : Result (Unit {0}) Infeasible) → IsInitial g e (sum_to g.nodes (λ v. up (e v))) s → Sound g s' → Later g s s' → Outcome g s' place r → IsSolution g e s' place r
solved g e s s' place r b o l a =
    record {
      flows = o.flows;
      priced = o.priced;
      bounded = o.bounded;
      supplies = λ v h. l.supplies v h ∙ b.supplies v h;
      moved = λ c h. omega (arith, ints, l.moved c h, ap nat_abs (b.flow c h), b.few);
      leaves = λ v. omega (arith, ints, l.leaves v, leaving_same v, b.few);
      comes = λ v. omega (arith, ints, l.comes v, coming_same v, b.few);
      answer = a;
    }
  where
    leaving_same : (v : ℕ) → outgoing g s.flow v ≡ outgoing g (initial_flow g) v
    leaving_same v = leaving_ext g s.flow (initial_flow g) v b.flow

    coming_same : (v : ℕ) → incoming g s.flow v ≡ incoming g (initial_flow g) v
    coming_same v = coming_ext g s.flow (initial_flow g) v b.flow
