-- The steps of a search: an arc passed over, a node labelled or labelled anew by a shorter path, a node reached; and how far labels can be.
use Rattle.std.proofs.Common.{◌≡◌, ℕ, zero, suc, ◌+◌, ◌*◌, ◌^◌, ◌<◌, ◌≤◌, ◌⊎◌, ℤ, pos, ◌+ℤ◌, ◌-ℤ◌, nat_abs, ◌≤ℤ◌, ◌<ℤ◌, sym, refl, ap, ◌∙◌, inl, inr, true, false, arith, rules, w64, to_z, of_z}
use Rattle.std.proofs.lemmas.Int.{ints}
use Rattle.std.proofs.lemmas.Bool.{cases_eq, cases_lt}
use Rattle.net_graph.specs.Graph.{Graph, IsNetwork, unit_cost, reduced_cost}
use Rattle.net_graph.specs.Sound.{State, Sound}
use Rattle.net_graph.proofs.Points.{cases_lt_ℤ, unit_small}
use Rattle.net_search.specs.Label.{infinity}
use Rattle.net_search.specs.Tree.{Tree, IsPathTree, HasPredecessor, Relaxed, HasTarget}
use Rattle.net_search.specs.Inner.{Searching, InHand, Improved, LabelTaken}
use Rattle.net_search.proofs.Listed.{place_most}

-- a path to node v of length d is no shorter than what is known
abbrev pub Idle : Tree → ℕ → ℤ → Type 0
Idle t v d = (t.bound ≤ℤ d) ⊎ (t.distance v ≤ℤ d)

-- it is shorter than the bound, and than the label of v
pub record Nearer (t : Tree) (v : ℕ) (d : ℤ) : Type 0 where
  pub bound : d <ℤ t.bound
  pub distance : d <ℤ t.distance v

-- one arc more: label, potential and unit cost along it
further : (lv lu c pu pv ps : ℤ) (k m : ℕ) → lv ≡ (lu +ℤ ((c +ℤ pu) -ℤ pv)) → nat_abs ((lu +ℤ pu) -ℤ ps) ≤ 1073741824 * k → nat_abs c ≤ 1073741824 → k < m → nat_abs ((lv +ℤ pv) -ℤ ps) ≤ 1073741824 * m
further lv lu c pu pv ps k m e h j l = omega (arith, ints)

nothing_far : (z p : ℤ) (m : ℕ) → z ≡ pos 0 → nat_abs ((z +ℤ p) -ℤ p) ≤ 1073741824 * m
nothing_far z p m e = omega (arith, ints)

short : (l p q : ℤ) (k n : ℕ) → nat_abs ((l +ℤ p) -ℤ q) ≤ 1073741824 * k → k ≤ n → n ≤ 2 ^ 28 → nat_abs p ≤ 2 ^ 31 * n → nat_abs q ≤ 2 ^ 31 * n → nat_abs l ≤ 2 ^ 60 + 2 ^ 58
short l p q k n h a b c d = omega (arith, ints)

cheap : (c p q : ℤ) (n : ℕ) → nat_abs c ≤ 1073741824 → nat_abs p ≤ 2 ^ 31 * n → nat_abs q ≤ 2 ^ 31 * n → n ≤ 2 ^ 28 → nat_abs ((c +ℤ p) -ℤ q) ≤ 2 ^ 60 + 2 ^ 30
cheap c p q n h i j k = omega (arith, ints)

-- a sum of signed numbers as the code has it
pub sum_fits : (l r c : ℤ) → nat_abs l ≤ 2 ^ 60 + 2 ^ 58 → nat_abs c ≤ 2 ^ 60 + 2 ^ 30 → r ≡ c → to_z w64 (of_z w64 (to_z w64 (of_z w64 l) +ℤ to_z w64 (of_z w64 r))) ≡ (l +ℤ c)
sum_fits l r c h i e = omega (arith, ints)

module _ (g : Graph) (w : IsNetwork g) (s : State) (o : Sound g s) (t : Tree) (i : IsPathTree g s t) where
  -- the predecessor of a labelled node is labelled
  tail_met : (v : ℕ) → v < g.nodes → t.distance v <ℤ infinity → (P : HasPredecessor g s t v) → t.distance (g.tail (t.pred v)) <ℤ infinity
  tail_met v h m P = i.labelled (g.tail (t.pred v)) (w.arc (t.pred v) P.arc).tail P.from

  label_up_to : (k v : ℕ) → v < g.nodes → t.distance v <ℤ infinity → t.place v < k → nat_abs ((t.distance v +ℤ s.potential v) -ℤ s.potential t.source) ≤ 1073741824 * t.place v
  label_up_to zero v h m l = absurd (omega arith)
  label_up_to (suc k) v h m l = elim (cases_eq v t.source) [
    | inl e ↦ rw e (nothing_far (t.distance t.source) (s.potential t.source) (t.place t.source) i.source_distance)
    | inr n ↦
        (let P : HasPredecessor g s t v = i.predecessor v h m n in
        let T : g.tail (t.pred v) < g.nodes = (w.arc (t.pred v) P.arc).tail in
        further (t.distance v) (t.distance (g.tail (t.pred v))) (unit_cost g s.flow (t.pred v)) (s.potential (g.tail (t.pred v))) (s.potential v) (s.potential t.source) (t.place (g.tail (t.pred v))) (t.place v)
        (omega (arith, ints, P.sum, ap s.potential P.ends))
        (label_up_to k (g.tail (t.pred v)) T (tail_met v h m P) (omega (arith, P.earlier)))
        (unit_small g s.flow (t.pred v) w P.arc) P.earlier)
  ]

  -- a label is what the path costs, seen from the potentials
  pub label_near : (v : ℕ) → v < g.nodes → t.distance v <ℤ infinity → nat_abs ((t.distance v +ℤ s.potential v) -ℤ s.potential t.source) ≤ 1073741824 * t.place v
  label_near v h m = label_up_to (suc (t.place v)) v h m (omega arith)

  pub label_fits : (v : ℕ) → v < g.nodes → t.distance v <ℤ infinity → nat_abs (t.distance v) ≤ 2 ^ 60 + 2 ^ 58
  label_fits v h m = short (t.distance v) (s.potential v) (s.potential t.source) (t.place v) g.nodes (label_near v h m) (i.place v h) w.few_nodes (o.bounded v h) (o.bounded t.source i.source)

-- a reduced cost is small
pub reduced_small : (g : Graph) (w : IsNetwork g) (s : State) (o : Sound g s) (a : ℕ) → a < g.arcs → nat_abs (reduced_cost g s.flow s.potential a) ≤ 2 ^ 60 + 2 ^ 30
reduced_small g w s o a h = cheap (unit_cost g s.flow a) (s.potential (g.tail a)) (s.potential (g.head a)) g.nodes (unit_small g s.flow a w h) (o.bounded (g.tail a) (w.arc a h).tail) (o.bounded (g.head a) (w.arc a h).head) w.few_nodes

-- what is searched so far are paths
pub path_tree : (g : Graph) (s : State) (hand upto : ℕ) (t : Tree) → Searching g s hand upto t → IsPathTree g s t
path_tree g s hand upto t i =
    record {
      source = i.is_node;
      source_distance = i.source_distance;
      predecessor = i.parent;
      labelled = i.listed.finite;
      place = λ v h. place_most g.nodes t i.listed v h;
    }

-- the same search, where other arcs are known to be relaxed
pub with_relaxed : (g : Graph) (s : State) (hand upto hand' upto' : ℕ) (t : Tree) → Searching g s hand upto t → ((a : ℕ) → a < g.arcs → t.place (g.tail a) < t.reached → (g.tail a ≡ hand' → a < upto') → s.flow a <ℤ g.limit a → Relaxed g s t a) → Searching g s hand' upto' t
with_relaxed g s hand upto hand' upto' t i r =
    record {
      listed = i.listed;
      is_node = i.is_node;
      rooted = i.rooted;
      source_distance = i.source_distance;
      parent = i.parent;
      low = i.low;
      high = i.high;
      relaxed = r;
      capped = i.capped;
      deficits = i.deficits;
      aims = i.aims;
      bounded = i.bounded;
      radius_most = i.radius_most;
    }

module _ (g : Graph) (w : IsNetwork g) (s : State) (o : Sound g s) (hand upto : ℕ) (t : Tree) (i : Searching g s hand upto t) where
  pub level_fits : (u : ℕ) → InHand g.nodes t u → nat_abs t.last_distance ≤ 2 ^ 60 + 2 ^ 58
  level_fits u h = omega (arith, ints, h.last_distance, label_fits g w s o t (path_tree g s hand upto t i) u h.node (i.listed.finite u h.node h.reached))

  -- an arc that is passed over
  pub passed : (t.place (g.tail upto) < t.reached → s.flow upto <ℤ g.limit upto → Relaxed g s t upto) → Searching g s hand (upto + 1) t
  passed r = with_relaxed g s hand upto hand (upto + 1) t i (λ a h p q f. at_arc a h p q f (cases_eq a upto))
    where
      at_arc : (a : ℕ) → a < g.arcs → t.place (g.tail a) < t.reached → (g.tail a ≡ hand → a < upto + 1) → s.flow a <ℤ g.limit a → (a ≡ upto) ⊎ (a ≡ upto → ⊥) → Relaxed g s t a
      at_arc a h p q f (inl e) = rw e (r (rw e at p) (rw e at f))
      at_arc a h p q f (inr n) = i.relaxed a h p (λ x. omega (arith, q x)) f

  -- node v labelled d by arc a, nearer than the bound; t' is the search after that
  module _ (a v : ℕ) (d : ℤ) (t' : Tree) (m : Improved g.nodes t t' v a d)
      (arc : a < g.arcs) (is_hand : g.tail a ≡ hand) (in_hand : t.place hand < t.reached) (leads : g.head a ≡ v) (takes : s.flow a <ℤ g.limit a)
      (sums : d ≡ (t.distance (g.tail a) +ℤ reduced_cost g s.flow s.potential a)) (above : t.last_distance ≤ℤ d) (nearer : d <ℤ t.bound)
      (new : d ≤ℤ t.distance v)
      (late : t.reached ≤ t.place v)
      (aim : ((s.excess v <ℤ pos 0) × (t'.bound ≡ d) × (t'.target ≡ v)) ⊎ ((pos 0 ≤ℤ s.excess v) × (t'.bound ≡ t.bound) × (t'.target ≡ t.target)))
      (upto_is : upto ≡ a) where
    node : v < g.nodes
    node = rw (sym leads) (w.arc a arc).head

    -- reached nodes are as they were
    apart : (u : ℕ) → t.place u < t.reached → u ≡ v → ⊥
    apart u h e = omega (arith, ap t.place e)

    was_reached : (u : ℕ) → t'.place u < t'.reached → t.place u < t.reached
    was_reached u p = omega (arith, m.place u, m.reached)

    bound_falls : t'.bound ≤ℤ t.bound
    bound_falls = elim aim [
      | inl q ↦ omega (arith, ints, q.1, nearer)
      | inr q ↦ omega (arith, ints, q.1)
    ]

    label_falls : (u : ℕ) → t'.distance u ≤ℤ t.distance u
    label_falls u = elim (cases_eq u v) [
      | inl e ↦ omega (arith, ints, ap t'.distance e, ap t.distance e, m.distance_here, new)
      | inr n ↦ omega (arith, ints, m.distance_kept u n)
    ]

    source_apart : t.source ≡ v → ⊥
    source_apart e = omega (arith, i.rooted (omega (arith, in_hand)), ap t.place e, late)

    parent' : (u : ℕ) → u < g.nodes → t'.distance u <ℤ infinity → (u ≡ t.source → ⊥) → HasPredecessor g s t' u
    parent' u h p ns = elim (cases_eq u v) [
      | inl e ↦ rw e by_a
      | inr n ↦ as_was n
    ]
      where
        tail_label : t'.distance (g.tail a) ≡ t.distance (g.tail a)
        tail_label = m.distance_kept (g.tail a) (apart (g.tail a) (rw is_hand in_hand))

        by_a : HasPredecessor g s t' v
        by_a =
            record {
              arc = rw m.pred_here arc;
              ends = rw m.pred_here leads;
              takes = rw m.pred_here takes;
              from = rw m.pred_here (omega (arith, m.place (g.tail a), m.reached, ap t.place is_hand));
              earlier = rw m.pred_here (omega (arith, m.place (g.tail a), m.place v, late, ap t.place is_hand));
              sum = rw m.pred_here (omega (arith, ints, m.distance_here, sums, tail_label));
            }

        as_was : (u ≡ v → ⊥) → HasPredecessor g s t' u
        as_was n =
            (let P : HasPredecessor g s t u = i.parent u h (omega (arith, ints, p, m.distance_kept u n)) ns in
            let V : t'.pred u ≡ t.pred u = m.pred_kept u n in
            let tp : t'.place (g.tail (t.pred u)) ≡ t.place (g.tail (t.pred u)) = m.place (g.tail (t.pred u)) in
            record {
              arc = rw V P.arc;
              ends = rw V P.ends;
              takes = rw V P.takes;
              from = rw V (omega (arith, tp, P.from, m.reached));
              earlier = rw V (omega (arith, tp, P.earlier, m.place u));
              sum = rw V (omega (arith, ints, P.sum, m.distance_kept u n, m.distance_kept (g.tail (t.pred u)) (apart (g.tail (t.pred u)) P.from)));
            })

    relaxed' : (b : ℕ) → b < g.arcs → t'.place (g.tail b) < t'.reached → (g.tail b ≡ hand → b < a + 1) → s.flow b <ℤ g.limit b → Relaxed g s t' b
    relaxed' b h p q f = elim (cases_eq b a) [
      | inl e ↦ rw e (inl (omega (arith, ints, ap t'.distance leads, m.distance_here, sums, m.distance_kept (g.tail a) (apart (g.tail a) (rw is_hand in_hand)))))
      | inr n ↦ earlier n (i.relaxed b h was (λ x. omega (arith, q x, upto_is)) f)
    ]
      where
        was : t.place (g.tail b) < t.reached
        was = was_reached (g.tail b) p

        same : t'.distance (g.tail b) ≡ t.distance (g.tail b)
        same = m.distance_kept (g.tail b) (apart (g.tail b) was)

        earlier : (b ≡ a → ⊥) → Relaxed g s t b → Relaxed g s t' b
        earlier n (inl r) = inl (omega (arith, ints, label_falls (g.head b), r, same))
        earlier n (inr r) = inr (omega (arith, ints, r, bound_falls, same))

    deficits' : (u : ℕ) → u < g.nodes → s.excess u <ℤ pos 0 → t'.bound ≤ℤ t'.distance u
    deficits' u h e = elim (cases_eq u v) [
      | inl q ↦ elim aim [
        | inl x ↦ omega (arith, ints, x.1, ap t'.distance q, m.distance_here)
        | inr x ↦ absurd (omega (arith, ints, x.0, ap s.excess q))
      ]
      | inr n ↦ omega (arith, ints, bound_falls, m.distance_kept u n, i.deficits u h e)
    ]

    aims' : t'.bound <ℤ t'.radius → HasTarget g s t'
    aims' f = elim aim [
      | inl x ↦ record { node = rw x.2 node; deficit = rw x.2 x.0; distance = rw x.2 (omega (arith, ints, m.distance_here, x.1)) }
      | inr x ↦ old x (i.aims (omega (arith, ints, x.1, m.radius)))
    ]
      where
        old : (pos 0 ≤ℤ s.excess v) × (t'.bound ≡ t.bound) × (t'.target ≡ t.target) → HasTarget g s t → HasTarget g s t'
        old x A =
            record {
              node = rw x.2 A.node;
              deficit = rw x.2 A.deficit;
              distance = rw x.2 (omega (arith, ints, A.distance, x.1, m.distance_kept t.target (λ e. omega (arith, ints, ap s.excess e, A.deficit, x.0))));
            }

    pub met_by : Searching g s hand (a + 1) t'
    met_by =
        record {
          listed = m.listed;
          is_node = rw m.source i.is_node;
          rooted = λ p. rw m.source (omega (arith, m.place t.source, m.reached, i.rooted (omega (arith, p, m.reached))));
          source_distance = rw m.source (m.distance_kept t.source source_apart ∙ i.source_distance);
          parent = λ u h p n. parent' u h p (λ e. n (e ∙ sym m.source));
          low = λ u h p. omega (arith, ints, m.distance_kept u (apart u (was_reached u p)), i.low u h (was_reached u p), m.last_distance);
          high = λ u h p. elim (cases_eq u v) [
            | inl e ↦ omega (arith, ints, ap t'.distance e, m.distance_here, m.last_distance)
            | inr n ↦ omega (arith, ints, m.distance_kept u n, m.last_distance, i.high u h (omega (arith, m.place u, m.reached)))
          ];
          relaxed = relaxed';
          capped = elim aim [
            | inl x ↦ omega (arith, ints, x.1, m.last_distance)
            | inr x ↦ omega (arith, ints, x.1, m.last_distance, i.capped)
          ];
          deficits = deficits';
          aims = aims';
          bounded = omega (arith, ints, bound_falls, i.bounded, m.radius);
          radius_most = rw m.radius i.radius_most;
        }

-- what holds after an arc of the node in hand
pub record Onward (g : Graph) (s : State) (u upto : ℕ) (t t' : Tree) : Type 0 where
  pub searching : Searching g s u upto t'
  pub hand : InHand g.nodes t' u
  pub reached : t'.reached ≡ t.reached
  pub source : t'.source ≡ t.source

module _ (g : Graph) (w : IsNetwork g) (s : State) (o : Sound g s) (u a : ℕ) (t t' : Tree) (i : Searching g s u a t) (h : InHand g.nodes t u) (arc : a < g.arcs) (from : g.tail a ≡ u) where
  pub closed_arc : g.limit a ≤ℤ s.flow a → Onward g s u (a + 1) t t
  closed_arc c = record { searching = passed g w s o u a t i (λ p f. absurd (omega (arith, ints, f, c))); hand = h; reached = refl; source = refl }

  -- the label by the arc, as the code adds it up
  pub along : (r : ℤ) → r ≡ reduced_cost g s.flow s.potential a → to_z w64 (of_z w64 (to_z w64 (of_z w64 t.last_distance) +ℤ to_z w64 (of_z w64 r))) ≡ (t.last_distance +ℤ reduced_cost g s.flow s.potential a)
  along r e = sum_fits t.last_distance r _ (level_fits g w s o u a t i u h) (reduced_small g w s o a arc) e

  module _ (d : ℤ) (d_is : d ≡ (t.last_distance +ℤ reduced_cost g s.flow s.potential a)) where
    sum_is : d ≡ (t.distance (g.tail a) +ℤ reduced_cost g s.flow s.potential a)
    sum_is = omega (arith, ints, d_is, h.last_distance, ap t.distance from)

    as_relaxed : Idle t (g.head a) d → Relaxed g s t a
    as_relaxed (inl b) = inr (omega (arith, ints, b, sum_is))
    as_relaxed (inr q) = inl (omega (arith, ints, q, sum_is))

    pub idle_arc : Idle t (g.head a) d → Onward g s u (a + 1) t t
    idle_arc q = record { searching = passed g w s o u a t i (λ p f. as_relaxed q); hand = h; reached = refl; source = refl }

    module _ (takes : s.flow a <ℤ g.limit a) (q : Nearer t (g.head a) d) where
      above : t.last_distance ≤ℤ d
      above = omega (arith, ints, d_is, o.priced a arc takes)

      -- no reached node gets a lower label
      pub not_reached : t.reached ≤ t.place (g.head a)
      not_reached = elim (cases_lt (t.place (g.head a)) t.reached) [
        | inl l ↦ absurd (omega (arith, ints, above, i.low (g.head a) (w.arc a arc).head l, q.distance))
        | inr l ↦ l
      ]

      pub nearer_arc : LabelTaken g.nodes s.excess t t' (g.head a) a d → Onward g s u (a + 1) t t'
      nearer_arc k =
          record {
            searching = met_by g w s o u a t i a (g.head a) d t' k.improved arc from h.reached refl takes sum_is above q.bound (omega (arith, ints, q.distance)) not_reached (aims (cases_lt_ℤ (s.excess (g.head a)) (pos 0))) refl;
            hand = record { node = h.node; reached = omega (arith, k.improved.place u, k.improved.reached, h.reached); last_distance = omega (arith, ints, k.improved.distance_kept u apart_u, h.last_distance, k.improved.last_distance) };
            reached = k.improved.reached;
            source = k.improved.source;
          }
        where
          apart_u : u ≡ g.head a → ⊥
          apart_u e = omega (arith, ap t.place e, not_reached, h.reached)

          aims : (s.excess (g.head a) <ℤ pos 0) ⊎ (pos 0 ≤ℤ s.excess (g.head a)) → ((s.excess (g.head a) <ℤ pos 0) × (t'.bound ≡ d) × (t'.target ≡ g.head a)) ⊎ ((pos 0 ≤ℤ s.excess (g.head a)) × (t'.bound ≡ t.bound) × (t'.target ≡ t.target))
          aims (inl l) = inl (l, (k.aim l).0, (k.aim l).1)
          aims (inr l) = inr (l, (k.kept l).0, (k.kept l).1)

-- an arc that is said not to take more does not
pub not_open : (x l : ℤ) → (x <ℤ l → false ≡ true) → l ≤ℤ x
not_open x l h = elim (cases_lt_ℤ x l) [
  | inl k ↦ absurd (let e = h k in search rules)
  | inr k ↦ k
]
