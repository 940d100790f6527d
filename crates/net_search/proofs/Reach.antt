-- The end of a node's arcs, the next node reached, and the beginning of a search.
use Rattle.std.proofs.Common.{◌≡◌, ℕ, ◌+◌, ◌<◌, ◌≤◌, ◌⊎◌, ℤ, pos, ◌≤ℤ◌, ◌<ℤ◌, SomeIff, sym, refl, ap, ◌∙◌, inl, inr, arith}
use Rattle.std.proofs.lemmas.Int.{ints}
use Rattle.std.proofs.lemmas.Bool.{cases_eq, cases_lt}
use Rattle.std.specs.Bool.{then_some}
use lib.Signed.{lt_z}
use Rattle.net_graph.specs.Graph.{Graph, IsNetwork}
use Rattle.net_graph.specs.Sound.{State, Sound}
use Rattle.net_graph.proofs.Points.{lt_yes, lt_no, cases_lt_ℤ}
use Rattle.net_search.proofs.Listed.{few}
use Rattle.net_search.proofs.Steps.{with_relaxed}
use Rattle.net_search.specs.Label.{infinity}
use Rattle.net_search.specs.Tree.{Tree, HasPredecessor, Relaxed, HasTarget}
use Rattle.net_search.specs.Inner.{Searching, InHand, Advanced, Begun}

-- after the last arc of the node in hand all its arcs are relaxed
pub scanned : (g : Graph) (w : IsNetwork g) (s : State) (u upto : ℕ) (t : Tree) → Searching g s u upto t → g.first (u + 1) ≤ upto → Searching g s g.nodes 0 t
scanned g w s u upto t i h = with_relaxed g s u upto g.nodes 0 t i (λ a l p q f. i.relaxed a l p (λ e. omega (arith, h, (w.arc a l).below, ap (λ (v : ℕ). g.first (v + 1)) e)) f)

-- a node is reached
module _ (g : Graph) (w : IsNetwork g) (s : State) (o : Sound g s) (t t' : Tree) (u : ℕ) (i : Searching g s g.nodes 0 t) (a : Advanced g.nodes t t' u) where
  before : (v : ℕ) → v < g.nodes → t'.place v < t'.reached → (v ≡ u → ⊥) → t.place v < t.reached
  before v h p n = elim (cases_lt (t.place v) t.reached) [
    | inl l ↦ l
    | inr l ↦ absurd (omega (arith, a.step.kept v n, i.listed.beyond v h l, p, few g.nodes t' a.step.listed))
  ]

  -- a reached node keeps its place
  stays : (v : ℕ) → t.place v < t.reached → t'.place v ≡ t.place v
  stays v p = a.step.kept v (λ e. omega (arith, ap t.place e, a.was))

  parent' : (v : ℕ) → v < g.nodes → t'.distance v <ℤ infinity → (v ≡ t'.source → ⊥) → HasPredecessor g s t' v
  parent' v h p ns =
      (let P : HasPredecessor g s t v = i.parent v h (omega (arith, ints, p, a.step.distance v)) (λ e. ns (e ∙ sym a.step.source)) in
      let V : t'.pred v ≡ t.pred v = a.step.pred v in
      let tp : t'.place (g.tail (t.pred v)) ≡ t.place (g.tail (t.pred v)) = stays (g.tail (t.pred v)) P.from in
      record {
        arc = rw V P.arc;
        ends = rw V P.ends;
        takes = rw V P.takes;
        from = rw V (omega (arith, tp, P.from, a.step.reached));
        earlier = rw V (elim (cases_eq v u) [
          | inl e ↦ omega (arith, tp, P.from, ap t'.place e, a.step.here)
          | inr n ↦ omega (arith, tp, P.earlier, a.step.kept v n)
        ]);
        sum = rw V (omega (arith, ints, P.sum, a.step.distance v, a.step.distance (g.tail (t.pred v))));
      })

  relaxed' : (b : ℕ) → b < g.arcs → t'.place (g.tail b) < t'.reached → (g.tail b ≡ u → b < g.first u) → s.flow b <ℤ g.limit b → Relaxed g s t' b
  relaxed' b h p q f = elim (cases_eq (g.tail b) u) [
    | inl e ↦ absurd (omega (arith, q e, (w.arc b h).from, ap g.first e))
    | inr n ↦ old (i.relaxed b h (before (g.tail b) (w.arc b h).tail p n) (λ x. absurd (omega (arith, x, (w.arc b h).tail))) f)
  ]
    where
      old : Relaxed g s t b → Relaxed g s t' b
      old (inl r) = inl (omega (arith, ints, r, a.step.distance (g.head b), a.step.distance (g.tail b)))
      old (inr r) = inr (omega (arith, ints, r, a.step.bound, a.step.distance (g.tail b)))

  aims' : t'.bound <ℤ t'.radius → HasTarget g s t'
  aims' f = old (i.aims (omega (arith, ints, a.step.bound, a.step.radius)))
    where
      old : HasTarget g s t → HasTarget g s t'
      old A =
          record {
            node = rw a.step.target A.node;
            deficit = rw a.step.target A.deficit;
            distance = rw a.step.target (omega (arith, ints, A.distance, a.step.bound, a.step.distance t.target));
          }

  pub advanced : Searching g s u (g.first u) t'
  advanced =
      record {
        listed = a.step.listed;
        is_node = rw a.step.source i.is_node;
        rooted = λ p. rw a.step.source (root (cases_eq t.source u));
        source_distance = rw a.step.source (a.step.distance t.source ∙ i.source_distance);
        parent = parent';
        low = λ v h p. elim (cases_eq v u) [
          | inl e ↦ omega (arith, ints, ap t'.distance e, a.step.distance u, a.last_distance)
          | inr n ↦ omega (arith, ints, a.step.distance v, a.last_distance, i.low v h (before v h p n), i.high u a.node a.was)
        ];
        high = λ v h p. omega (arith, ints, a.step.distance v, a.last_distance, a.least v h (was_frontier v h p));
        relaxed = relaxed';
        capped = omega (arith, ints, a.last_distance, a.step.bound, a.nearer);
        deficits = λ v h e. omega (arith, ints, a.step.bound, a.step.distance v, i.deficits v h e);
        aims = aims';
        bounded = omega (arith, ints, a.step.bound, i.bounded, a.step.radius);
        radius_most = rw a.step.radius i.radius_most;
      }
    where
      was_frontier : (v : ℕ) → v < g.nodes → t'.reached ≤ t'.place v → t.reached ≤ t.place v
      was_frontier v h p = elim (cases_lt (t.place v) t.reached) [
        | inl l ↦ absurd (omega (arith, stays v l, a.step.reached))
        | inr l ↦ l
      ]

      root : (t.source ≡ u) ⊎ (t.source ≡ u → ⊥) → t'.place t.source < t'.reached
      root (inl e) = omega (arith, ap t'.place e, a.step.here, a.step.reached)
      root (inr n) = omega (arith, a.step.kept t.source n, a.step.reached, i.rooted (omega (arith, P.from)))
        where
          P : HasPredecessor g s t u
          P = i.parent u a.node (omega (arith, ints, a.nearer, i.bounded, i.radius_most)) (λ e. n (sym e))

  pub advanced_hand : InHand g.nodes t' u
  advanced_hand = record { node = a.node; reached = omega (arith, a.step.here, a.step.reached); last_distance = omega (arith, ints, a.step.distance u, a.last_distance) }

-- the beginning, from a node without a deficit
pub begins : (g : Graph) (s : State) (t : Tree) → t.source < g.nodes → pos 0 ≤ℤ s.excess t.source → pos 0 ≤ℤ t.radius → t.radius ≤ℤ infinity → Begun g.nodes t → Searching g s g.nodes 0 t
begins g s t h e ahead most b =
    record {
      listed = b.listed;
      is_node = h;
      rooted = λ p. absurd (omega (arith, p, b.reached));
      source_distance = b.source_distance;
      parent = λ v l p n. absurd (n (b.only v l p));
      low = λ v l p. absurd (omega (arith, b.reached));
      high = λ v l p. elim (cases_lt_ℤ (t.distance v) infinity) [
        | inl f ↦ omega (arith, ints, b.last_distance, b.source_distance, ap t.distance (b.only v l f))
        | inr f ↦ omega (arith, ints, b.last_distance, f)
      ];
      relaxed = λ a l p q f. absurd (omega (arith, b.reached));
      capped = omega (arith, ints, b.last_distance, b.bound, ahead);
      deficits = λ v l q. elim (cases_lt_ℤ (t.distance v) infinity) [
        | inl f ↦ absurd (omega (arith, ints, e, q, ap s.excess (b.only v l f)))
        | inr f ↦ omega (arith, ints, b.bound, most, f)
      ];
      aims = λ f. absurd (omega (arith, ints, f, b.bound));
      bounded = omega (arith, ints, b.bound);
      radius_most = most;
    }

-- what is found where it is nearer than all, as it is seen in 64 bits
pub nearer_found : (b m l k : ℤ) (v : ℕ) → l ≡ b → k ≡ m → SomeIff (then_some (lt_z l k) v) (b <ℤ m) v
nearer_found b m l k v e f = elim (cases_lt_ℤ b m) [
  | inl h ↦ rw (lt_yes l k (omega (arith, ints, h, e, f))) (h, refl)
  | inr h ↦ rw (lt_no l k (omega (arith, ints, h, e, f))) (λ j. omega (arith, ints, h, j))
]
