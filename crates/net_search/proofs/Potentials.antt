-- When a search is over: the potentials can be lowered, and then the arcs of the path found have reduced cost 0; or nothing can leave the reached nodes.
use Rattle.std.proofs.Common.{◌≡◌, ℕ, ◌*◌, ◌^◌, ◌<◌, ◌≤◌, ℤ, pos, ◌+ℤ◌, ◌-ℤ◌, nat_abs, ◌≤ℤ◌, ◌<ℤ◌, sym, ap, inl, inr, arith}
use Rattle.std.proofs.lemmas.Int.{ints}
use Rattle.std.proofs.lemmas.Bool.{cases_lt}
use Rattle.net_graph.specs.Graph.{Graph, IsNetwork, reduced_cost}
use Rattle.net_graph.proofs.Points.{cases_lt_ℤ}
use Rattle.net_graph.specs.Sound.{State, Sound, total_excess}
use Rattle.net_search.specs.Label.{infinity}
use Rattle.net_search.specs.Tree.{Tree, HasPredecessor, IsPathTree, Relaxed, HasTarget, IsShortest}
use Rattle.net_search.specs.Path.{Lowered, OnPath, Step, IsShortestPath, Cut}
use Rattle.net_search.proofs.Steps.{label_near, label_fits, reduced_small}

-- the potential of a reached node: two paths from the source, of at most n arcs each
lowered_near : (l p q b pt : ℤ) (k m n : ℕ) → nat_abs ((l +ℤ p) -ℤ q) ≤ 1073741824 * k → nat_abs ((b +ℤ pt) -ℤ q) ≤ 1073741824 * m → pt ≡ pos 0 → k ≤ n → m ≤ n → nat_abs (p +ℤ (l -ℤ b)) ≤ 2 ^ 31 * n
lowered_near l p q b pt k m n h i e x y = omega (arith, ints)

module _ (g : Graph) (w : IsNetwork g) (s : State) (o : Sound g s) (t : Tree) (i : IsPathTree g s t) (m : IsShortest g s t) where
  module _ (most : t.radius ≤ℤ infinity) (found : t.bound <ℤ t.radius) (s' : State) (same_flow : s'.flow ≡ s.flow) (same_excess : s'.excess ≡ s.excess) (low : Lowered g.nodes t s.potential s'.potential) where
    A : HasTarget g s t
    A = m.target found

    target_met : t.distance t.target <ℤ infinity
    target_met = omega (arith, ints, A.distance, found, most)

    after : (a : ℕ) → a < g.arcs → s.flow a <ℤ g.limit a → pos 0 ≤ℤ reduced_cost g s.flow s'.potential a
    after a h f = elim (cases_lt (t.place (g.tail a)) t.reached) [
      | inl p ↦ elim (cases_lt (t.place (g.head a)) t.reached) [
        | inl q ↦ both p q (m.relaxed a h p f)
        | inr q ↦ leaves p q (m.relaxed a h p f)
      ]
      | inr p ↦ elim (cases_lt (t.place (g.head a)) t.reached) [
        | inl q ↦ omega (arith, ints, low.outside (g.tail a) T p, low.inside (g.head a) H q, m.reached (g.head a) H q, o.priced a h f)
        | inr q ↦ omega (arith, ints, low.outside (g.tail a) T p, low.outside (g.head a) H q, o.priced a h f)
      ]
    ]
      where
        T : g.tail a < g.nodes
        T = (w.arc a h).tail

        H : g.head a < g.nodes
        H = (w.arc a h).head

        both : t.place (g.tail a) < t.reached → t.place (g.head a) < t.reached → Relaxed g s t a → pos 0 ≤ℤ reduced_cost g s.flow s'.potential a
        both p q (inl r) = omega (arith, ints, low.inside (g.tail a) T p, low.inside (g.head a) H q, r)
        both p q (inr r) = omega (arith, ints, low.inside (g.tail a) T p, low.inside (g.head a) H q, r, m.reached (g.head a) H q)

        leaves : t.place (g.tail a) < t.reached → t.reached ≤ t.place (g.head a) → Relaxed g s t a → pos 0 ≤ℤ reduced_cost g s.flow s'.potential a
        leaves p q (inl r) = omega (arith, ints, low.inside (g.tail a) T p, low.outside (g.head a) H q, r, m.unreached (g.head a) H q)
        leaves p q (inr r) = omega (arith, ints, low.inside (g.tail a) T p, low.outside (g.head a) H q, r)

    deficit' : (v : ℕ) → v < g.nodes → s.excess v <ℤ pos 0 → s'.potential v ≡ pos 0
    deficit' v h e = elim (cases_lt (t.place v) t.reached) [
      | inl p ↦ omega (arith, ints, low.inside v h p, o.deficit v h e, m.reached v h p, m.no_nearer v h e)
      | inr p ↦ omega (arith, ints, low.outside v h p, o.deficit v h e)
    ]

    bounded' : (v : ℕ) → v < g.nodes → nat_abs (s'.potential v) ≤ 2 ^ 31 * g.nodes
    bounded' v h = elim (cases_lt (t.place v) t.reached) [
      | inl p ↦ rw (low.inside v h p)
          (lowered_near (t.distance v) (s.potential v) (s.potential t.source) t.bound (s.potential t.target) (t.place v) (t.place t.target) g.nodes
          (label_near g w s o t i v h (i.labelled v h p))
          (rw (sym A.distance) (label_near g w s o t i t.target A.node target_met))
          (o.deficit t.target A.node A.deficit) (i.place v h) (i.place t.target A.node))
      | inr p ↦ rw (low.outside v h p) (o.bounded v h)
    ]

    few' : total_excess g s' ≤ 2 ^ 60
    unfolding total_excess
    few' = rw same_excess o.few

    pub lowered_sound : Sound g s'
    lowered_sound =
        record {
          flows = rw same_flow o.flows;
          priced = rw same_flow after;
          deficit = rw same_excess deficit';
          bounded = bounded';
          even = rw same_excess o.even;
          few = few';
        }

    tight : (v : ℕ) → v < g.nodes → OnPath t v → (v ≡ t.source → ⊥) → Step g s' t v
    tight v h on ns =
        record {
          arc = P.arc;
          ends = P.ends;
          takes = rw same_flow P.takes;
          tight = rw same_flow (zero' on);
          from = P.from;
          earlier = P.earlier;
        }
      where
        met : OnPath t v → t.distance v <ℤ infinity
        met (inl p) = i.labelled v h p
        met (inr e) = rw e target_met

        P : HasPredecessor g s t v
        P = i.predecessor v h (met on) ns

        T : g.tail (t.pred v) < g.nodes
        T = (w.arc (t.pred v) P.arc).tail

        at_head : s'.potential (g.head (t.pred v)) ≡ s'.potential v
        at_head = ap s'.potential P.ends

        was_head : s.potential (g.head (t.pred v)) ≡ s.potential v
        was_head = ap s.potential P.ends

        inner : t.place v < t.reached → reduced_cost g s.flow s'.potential (t.pred v) ≡ pos 0
        inner p = omega (arith, ints, at_head, was_head, P.sum, low.inside v h p, low.inside (g.tail (t.pred v)) T P.from)

        last : v ≡ t.target → t.reached ≤ t.place v → reduced_cost g s.flow s'.potential (t.pred v) ≡ pos 0
        last e p = omega (arith, ints, at_head, was_head, P.sum, low.outside v h p, low.inside (g.tail (t.pred v)) T P.from, A.distance, ap t.distance e)

        zero' : OnPath t v → reduced_cost g s.flow s'.potential (t.pred v) ≡ pos 0
        zero' (inl p) = inner p
        zero' (inr e) = elim (cases_lt (t.place v) t.reached) [ inl p ↦ inner p | inr p ↦ last e p ]

    pub lowered_found : IsShortestPath g s' t
    lowered_found = record { source = i.source; target = A.node; deficit = rw same_excess A.deficit; step = tight }

  -- no node with a deficit is labelled: all labelled nodes are reached, and nothing leaves them
  module _ (none : infinity ≤ℤ t.bound) (more : pos 0 <ℤ s.excess t.source) where
    all_reached : (v : ℕ) → v < g.nodes → t.distance v <ℤ infinity → t.place v < t.reached
    all_reached v h p = elim (cases_lt (t.place v) t.reached) [
      | inl l ↦ l
      | inr l ↦ absurd (omega (arith, ints, none, m.unreached v h l, p))
    ]

    closed : (a : ℕ) → a < g.arcs → t.place (g.tail a) < t.reached → t.reached ≤ t.place (g.head a) → s.flow a <ℤ g.limit a → ⊥
    closed a h p q f = elim (m.relaxed a h p f) [
      | inl r ↦ omega (arith, ints, none, m.unreached (g.head a) (w.arc a h).head q, r, label_fits g w s o t i (g.tail a) (w.arc a h).tail (i.labelled (g.tail a) (w.arc a h).tail p), reduced_small g w s o a h)
      | inr r ↦ omega (arith, ints, none, r, label_fits g w s o t i (g.tail a) (w.arc a h).tail (i.labelled (g.tail a) (w.arc a h).tail p), reduced_small g w s o a h)
    ]

    pub nothing_leaves : Cut g s t
    nothing_leaves =
        record {
          closed = λ a h p q. full (s.flow a) (g.limit a) (o.flows.within a h) (closed a h p q);
          no_deficit = λ v h p. elim (cases_lt_ℤ (s.excess v) (pos 0)) [
            | inl e ↦ absurd (omega (arith, ints, none, m.no_nearer v h e, i.labelled v h p))
            | inr e ↦ e
          ];
          source = i.source;
          inside = all_reached t.source i.source (omega (arith, ints, i.source_distance));
          excess = more;
        }
      where
        full : (x y : ℤ) → x ≤ℤ y → (x <ℤ y → ⊥) → x ≡ y
        full x y h n = elim (cases_lt_ℤ x y) [ inl l ↦ absurd (n l) | inr l ↦ omega (arith, ints) ]
