-- The lists of a search: no node labelled, a node labelled, or labelled anew by a shorter path, a node reached.
use Rattle.std.proofs.Common.{◌≡◌, ℕ, zero, suc, ◌+◌, ◌<◌, ◌≤◌, ◌⊎◌, List, slice_index, ℤ, ◌≤ℤ◌, ◌<ℤ◌, sym, refl, ap, ◌∙◌, inl, inr, arith}
use Rattle.std.proofs.lemmas.Int.{ints}
use Rattle.std.proofs.lemmas.Bool.{cases_eq, cases_lt}
use Rattle.sums.specs.Sum.{sum_to}
use Rattle.sums.proofs.Sum.{sum_change, sum_ext, sum_const, member_le_sum}
use Rattle.net_graph.proofs.Points.{cases_lt_ℤ, lt_yes, lt_no}
use Rattle.net_search.specs.Label.{distance_of, place_of, infinity, unlabelled, Listed, AllUnlabelled, Unlabelled, Forgotten, Discovered}
use Rattle.net_search.specs.declared.label.Label.{Label}
use Rattle.net_search.specs.Tree.{Tree}
use Rattle.net_search.specs.Inner.{ListedTree}

-- node v stands on the frontier
abbrev pub Waits : (ℕ → ℕ) → ℕ → ℕ → Type 0
Waits frontier waiting v = (k : ℕ) × (k < waiting) × (frontier k ≡ v)

waits_or_not : (frontier : ℕ → ℕ) (waiting v : ℕ) → Waits frontier waiting v ⊎ ((k : ℕ) → k < waiting → frontier k ≡ v → ⊥)
waits_or_not f zero v = inr (λ k h. absurd (omega arith))
waits_or_not f (suc m) v = elim (waits_or_not f m v) [
  | inl q ↦ inl (q.0, omega (arith, q.1), q.2)
  | inr n ↦ elim (cases_eq (f m) v) [
    | inl e ↦ inl (m, omega arith, e)
    | inr x ↦ inr (λ k h e. elim (cases_eq k m) [ inl p ↦ x (ap f (sym p) ∙ e) | inr q ↦ n k (omega (arith, h, q)) e ])
  ]
]

-- a labelled node is reached or waits
pub met_is : (n : ℕ) (distance : ℕ → ℤ) (place order frontier : ℕ → ℕ) (reached waiting : ℕ) → Listed n distance place order frontier reached waiting → (v : ℕ) → v < n → distance v <ℤ infinity → (place v < reached) ⊎ Waits frontier waiting v
met_is n distance place order frontier reached waiting i v h f = elim (cases_lt (place v) reached) [
  | inl p ↦ inl p
  | inr p ↦ elim (waits_or_not frontier waiting v) [ inl q ↦ inr q | inr q ↦ absurd (i.complete v h f p q) ]
]

not_met_is : (reached place waiting v : ℕ) (frontier : ℕ → ℕ) → (place < reached) ⊎ Waits frontier waiting v → reached ≤ place → ((k : ℕ) → k < waiting → frontier k ≡ v → ⊥) → ⊥
not_met_is r p w v f (inl h) l n = omega (arith, h, l)
not_met_is r p w v f (inr q) l n = n q.0 q.1 q.2

unmet_no : (z : ℤ) → z <ℤ infinity → unlabelled z ≡ 0
unmet_no z h = rw (lt_yes z infinity h)

unmet_yes : (z : ℤ) → infinity ≤ℤ z → unlabelled z ≡ 1
unmet_yes z h = rw (lt_no z infinity h)

-- as many nodes as are not labelled can be labelled yet
pub unlabelled_left : (n : ℕ) (distance : ℕ → ℤ) (place order frontier : ℕ → ℕ) (reached waiting : ℕ) → Listed n distance place order frontier reached waiting → (v : ℕ) → v < n → infinity ≤ℤ distance v → waiting < n
unlabelled_left n distance place order frontier reached waiting i v h f = omega (arith, i.count, member_le_sum n v (λ w. unlabelled (distance w)) h, unmet_yes (distance v) f)

pub few : (n : ℕ) (t : Tree) → ListedTree n t → t.reached + t.waiting ≤ n
few n t i = omega (arith, i.count)

-- the place of a node is one of those reached, or n
pub place_most : (n : ℕ) (t : Tree) → ListedTree n t → (v : ℕ) → v < n → t.place v ≤ n
place_most n t i v h = elim (cases_lt (t.place v) t.reached) [
  | inl l ↦ omega (arith, few n t i)
  | inr l ↦ omega (arith, i.beyond v h l)
]

-- no node labelled
pub blank_listed : (n m : ℕ) (labels : List Label) (order frontier : ℕ → ℕ) → n ≡ m → AllUnlabelled m labels → Listed n (distance_of labels) (place_of labels) order frontier 0 0
blank_listed n m labels order frontier e blank =
    let b : AllUnlabelled n labels = rw e blank in
    record {
      ordered = λ k h. absurd (omega arith);
      back = λ k h. absurd (omega arith);
      there = λ v h p. absurd (omega arith);
      beyond = λ v h p. b.place v h;
      node = λ k h. absurd (omega arith);
      late = λ k h. absurd (omega arith);
      labelled = λ k h. absurd (omega arith);
      once = λ j k p q e. absurd (omega arith);
      complete = λ v h f p q. absurd (omega (arith, ints, f, b.distance v h));
      finite = λ v h p. absurd (omega arith);
      count = omega (arith, sum_ext n (λ v. unlabelled (distance_of labels v)) (λ _. 1) (λ v h. unmet_yes (distance_of labels v) (omega (arith, ints, b.distance v h))), sum_const n 1);
    }

-- node v has the label d, and waits
module _ (n : ℕ) (distance distance' : ℕ → ℤ) (place place' order order' frontier frontier' : ℕ → ℕ) (reached reached' waiting waiting' : ℕ) (v : ℕ) (d : ℤ) (i : Listed n distance place order frontier reached waiting) (m : Discovered (distance v) frontier frontier' waiting waiting' v) (h : v < n) (unreached : reached ≤ place v) (near : d <ℤ infinity)
    (here : distance' v ≡ d) (others : (w : ℕ) → (w ≡ v → ⊥) → distance' w ≡ distance w)
    (same_place : (w : ℕ) → place' w ≡ place w) (same_order : (k : ℕ) → order' k ≡ order k) (same_reached : reached' ≡ reached) where
  -- one that waited, or v as the last
  stands : (k : ℕ) → k < waiting' → ((k < waiting) × (frontier' k ≡ frontier k)) ⊎ ((infinity ≤ℤ distance v) × (k ≡ waiting) × (frontier' k ≡ v))
  stands k l = elim (cases_lt k waiting) [
    | inl p ↦ inl (p, m.kept k p)
    | inr p ↦ elim (cases_lt_ℤ (distance v) infinity) [
      | inl f ↦ absurd (omega (arith, m.known f))
      | inr f ↦ inr (f, last f p, ap frontier' (last f p) ∙ m.last f)
    ]
  ]
    where
      last : infinity ≤ℤ distance v → waiting ≤ k → k ≡ waiting
      last f p = omega (arith, m.more f)

  more : waiting ≤ waiting'
  more = elim (cases_lt_ℤ (distance v) infinity) [ inl f ↦ omega (arith, m.known f) | inr f ↦ omega (arith, m.more f) ]

  labelled' : (k : ℕ) → k < waiting' → distance' (frontier' k) <ℤ infinity
  labelled' k l = elim (cases_eq (frontier' k) v) [
    | inl e ↦ omega (arith, ints, ap distance' e, here, near)
    | inr x ↦ elim (stands k l) [
      | inl p ↦ omega (arith, ints, others (frontier' k) x, ap distance p.1, i.labelled k p.0)
      | inr p ↦ absurd (x p.2)
    ]
  ]

  once' : (j k : ℕ) → j < waiting' → k < waiting' → frontier' j ≡ frontier' k → j ≡ k
  once' j k l p e = elim (stands j l) [
    | inl x ↦ elim (stands k p) [
      | inl y ↦ i.once j k x.0 y.0 (sym x.1 ∙ (e ∙ y.1))
      | inr y ↦ absurd (omega (arith, ints, y.0, i.labelled j x.0, ap distance (sym x.1 ∙ (e ∙ y.2))))
    ]
    | inr x ↦ elim (stands k p) [
      | inl y ↦ absurd (omega (arith, ints, x.0, i.labelled k y.0, ap distance (sym y.1 ∙ (sym e ∙ x.2))))
      | inr y ↦ omega (arith, x.1, y.1)
    ]
  ]

  waited : (w : ℕ) → (place w < reached) ⊎ Waits frontier waiting w → (place' w < reached') ⊎ Waits frontier' waiting' w
  waited w (inl p) = inl (omega (arith, same_place w, same_reached))
  waited w (inr q) = inr (q.0, omega (arith, q.1, more), m.kept q.0 q.1 ∙ q.2)

  met' : (w : ℕ) → w < n → distance' w <ℤ infinity → (place' w < reached') ⊎ Waits frontier' waiting' w
  met' w l f = elim (cases_eq w v) [
    | inl e ↦ elim (cases_lt_ℤ (distance v) infinity) [
      | inl g ↦ waited w (rw e (met_is n distance place order frontier reached waiting i v h g))
      | inr g ↦ inr (waiting, omega (arith, m.more g), m.last g ∙ sym e)
    ]
    | inr x ↦ waited w (met_is n distance place order frontier reached waiting i w l (omega (arith, ints, f, others w x)))
  ]

  changed : sum_to n (λ w. unlabelled (distance w)) + unlabelled (distance' v) ≡ sum_to n (λ w. unlabelled (distance' w)) + unlabelled (distance v)
  changed = sum_change n v (λ w. unlabelled (distance w)) (λ w. unlabelled (distance' w)) h (λ w l x. ap unlabelled (sym (others w x)))

  pub met_listed : Listed n distance' place' order' frontier' reached' waiting'
  met_listed =
      record {
        ordered = λ k l. omega (arith, same_order k, i.ordered k (omega (arith, same_reached)));
        back = λ k l. same_place (order' k) ∙ (ap place (same_order k) ∙ i.back k (omega (arith, same_reached)));
        there = λ w l p. same_order (place' w) ∙ (ap order (same_place w) ∙ i.there w l (omega (arith, same_place w, same_reached)));
        beyond = λ w l p. same_place w ∙ i.beyond w l (omega (arith, same_place w, same_reached));
        node = λ k l. elim (stands k l) [ inl p ↦ omega (arith, p.1, i.node k p.0) | inr p ↦ omega (arith, p.2, h) ];
        late = λ k l. elim (stands k l) [
          | inl p ↦ omega (arith, same_reached, same_place (frontier' k), ap place p.1, i.late k p.0)
          | inr p ↦ omega (arith, same_reached, same_place (frontier' k), ap place p.2, unreached)
        ];
        labelled = labelled';
        once = once';
        complete = λ w l f p q. not_met_is reached' (place' w) waiting' w frontier' (met' w l f) p q;
        finite = λ w l p. omega (arith, ints, others w (λ e. omega (arith, same_place w, same_reached, ap place e, unreached)), i.finite w l (omega (arith, same_place w, same_reached)));
        count = elim (cases_lt_ℤ (distance v) infinity) [
          | inl f ↦ omega (arith, i.count, same_reached, m.known f, changed, unmet_no (distance v) f, unmet_no (distance' v) (omega (arith, ints, here, near)))
          | inr f ↦ omega (arith, i.count, same_reached, m.more f, changed, unmet_yes (distance v) f, unmet_no (distance' v) (omega (arith, ints, here, near)))
        ];
      }

-- the node at k on the frontier is reached, and the last takes its place there
module _ (n : ℕ) (distance distance' : ℕ → ℤ) (place place' order order' frontier frontier' : ℕ → ℕ) (reached reached' waiting waiting' : ℕ) (k : ℕ) (i : Listed n distance place order frontier reached waiting) (h : k < waiting)
    (one_more : reached' ≡ reached + 1) (one_less : waiting' + 1 ≡ waiting)
    (place_here : place' (frontier k) ≡ reached) (PlaceKept : (w : ℕ) → (w ≡ frontier k → ⊥) → place' w ≡ place w)
    (order_here : order' reached ≡ frontier k) (order_kept : (j : ℕ) → j < reached → order' j ≡ order j)
    (moved : k < waiting' → frontier' k ≡ frontier waiting') (kept : (j : ℕ) → j < waiting' → (j ≡ k → ⊥) → frontier' j ≡ frontier j)
    (same_label : (w : ℕ) → distance' w ≡ distance w) where
  u : ℕ
  u = frontier k

  -- where what stands at j stood
  stood : (j : ℕ) → j < waiting' → (o : ℕ) × (o < waiting) × (frontier' j ≡ frontier o) × (o ≡ k → ⊥) × ((j ≡ k) ⊎ (o ≡ j)) × (j ≡ k → o ≡ waiting')
  stood j l = elim (cases_eq j k) [
    | inl e ↦ (waiting', omega (arith, one_less), ap frontier' e ∙ moved (omega (arith, e)), λ x. omega (arith, x, e, l), inl e, λ x. refl)
    | inr x ↦ (j, omega (arith, one_less), kept j l x, x, inr refl, λ e. absurd (x e))
  ]

  apart : (j : ℕ) → j < waiting → (j ≡ k → ⊥) → frontier j ≡ frontier k → ⊥
  apart j l x e = x (i.once j k l h e)

  once_still : (a b : ℕ) → a < waiting' → b < waiting' → frontier' a ≡ frontier' b → a ≡ b
  once_still a b p q e = by (stood a p) (stood b q)
    where
      by : ((o : ℕ) × (o < waiting) × (frontier' a ≡ frontier o) × (o ≡ k → ⊥) × ((a ≡ k) ⊎ (o ≡ a)) × (a ≡ k → o ≡ waiting')) → ((o : ℕ) × (o < waiting) × (frontier' b ≡ frontier o) × (o ≡ k → ⊥) × ((b ≡ k) ⊎ (o ≡ b)) × (b ≡ k → o ≡ waiting')) → a ≡ b
      by x y = ends (i.once x.0 y.0 x.1 y.1 (sym x.2 ∙ (e ∙ y.2))) x.4 y.4
        where
          ends : x.0 ≡ y.0 → (a ≡ k) ⊎ (x.0 ≡ a) → (b ≡ k) ⊎ (y.0 ≡ b) → a ≡ b
          ends s (inl c) (inl f) = omega (arith, c, f)
          ends s (inl c) (inr f) = absurd (omega (arith, s, f, x.5 c, q))
          ends s (inr c) (inl f) = absurd (omega (arith, s, c, y.5 f, p))
          ends s (inr c) (inr f) = omega (arith, s, c, f)

  waited_still : reached ≤ place (frontier k)
  waited_still = i.late k h

  before : (w : ℕ) → (w ≡ frontier k → ⊥) → place' w < reached' → w < n → place w < reached
  before w x p l = elim (cases_lt (place w) reached) [
    | inl q ↦ q
    | inr q ↦ absurd (omega (arith, PlaceKept w x, i.beyond w l q, one_more, one_less, i.count))
  ]

  met_still : (w : ℕ) → w < n → (place w < reached) ⊎ Waits frontier waiting w → (place' w < reached') ⊎ Waits frontier' waiting' w
  met_still w l (inl p) = inl (omega (arith, one_more, PlaceKept w (λ e. omega (arith, ap place e, waited_still))))
  met_still w l (inr q) = elim (cases_eq q.0 k) [
    | inl e ↦ inl (omega (arith, one_more, ap place' (sym q.2 ∙ ap frontier e), place_here))
    | inr x ↦ elim (cases_lt q.0 waiting') [
      | inl y ↦ inr (q.0, y, kept q.0 y x ∙ q.2)
      | inr y ↦ inr (k, omega (arith, y, x, q.1, h, one_less), moved (omega (arith, y, x, q.1, h, one_less)) ∙ (ap frontier (omega (arith, y, q.1, one_less)) ∙ q.2))
    ]
  ]

  pub reached_listed : Listed n distance' place' order' frontier' reached' waiting'
  reached_listed =
      record {
        ordered = λ j l. elim (cases_lt j reached) [
          | inl p ↦ omega (arith, order_kept j p, i.ordered j p)
          | inr p ↦ omega (arith, ap order' (last j l p), order_here, i.node k h)
        ];
        back = λ j l. elim (cases_lt j reached) [
          | inl p ↦ ap place' (order_kept j p) ∙ (PlaceKept (order j) (λ e. omega (arith, i.back j p, ap place e, waited_still)) ∙ i.back j p)
          | inr p ↦ ap place' (ap order' (last j l p) ∙ order_here) ∙ (place_here ∙ sym (last j l p))
        ];
        there = λ w l p. elim (cases_eq w (frontier k)) [
          | inl e ↦ ap order' (ap place' e ∙ place_here) ∙ (order_here ∙ sym e)
          | inr x ↦ ap order' (PlaceKept w x) ∙ (order_kept (place w) (before w x p l) ∙ i.there w l (before w x p l))
        ];
        beyond = λ w l p. elim (cases_eq w (frontier k)) [
          | inl e ↦ absurd (omega (arith, ap place' e, place_here, one_more))
          | inr x ↦ PlaceKept w x ∙ i.beyond w l (omega (arith, PlaceKept w x, one_more))
        ];
        node = λ j l. omega (arith, (stood j l).2, i.node (stood j l).0 (stood j l).1);
        late = λ j l. omega (arith, one_more, one_less, i.count, ap place' (stood j l).2, PlaceKept (frontier (stood j l).0) (apart (stood j l).0 (stood j l).1 (stood j l).3), i.beyond (frontier (stood j l).0) (i.node (stood j l).0 (stood j l).1) (i.late (stood j l).0 (stood j l).1));
        labelled = λ j l. omega (arith, ints, same_label (frontier' j), ap distance (stood j l).2, i.labelled (stood j l).0 (stood j l).1);
        once = once_still;
        complete = λ w l f p q. not_met_is reached' (place' w) waiting' w frontier' (met_still w l (met_is n distance place order frontier reached waiting i w l (omega (arith, ints, f, same_label w)))) p q;
        finite = λ w l p. elim (cases_eq w (frontier k)) [
          | inl e ↦ omega (arith, ints, same_label w, ap distance e, i.labelled k h)
          | inr x ↦ omega (arith, ints, same_label w, i.finite w l (before w x p l))
        ];
        count = omega (arith, i.count, one_more, one_less, sum_ext n (λ w. unlabelled (distance' w)) (λ w. unlabelled (distance w)) (λ w l. ap unlabelled (same_label w)));
      }
    where
      last : (j : ℕ) → j < reached' → reached ≤ j → j ≡ reached
      last j l p = omega (arith, one_more)

-- ---- what is forgotten

pub none_forgotten : (n : ℕ) (nodes : List ℕ) (labels : List Label) → Forgotten n nodes 0 labels labels
none_forgotten n nodes labels = record { distance = λ v. inr refl; place = λ v. inr refl; distance_here = λ j h. absurd (omega arith); place_here = λ j h. absurd (omega arith) }

pub one_more_forgotten : (n : ℕ) (nodes : List ℕ) (k v : ℕ) (labels labels' labels'' : List Label) → Forgotten n nodes k labels labels' → v ≡ slice_index nodes k → Unlabelled n labels' labels'' v → Forgotten n nodes (k + 1) labels labels''
one_more_forgotten n nodes k v labels labels' labels'' f e u =
    record {
      distance = λ w. elim (cases_eq w v) [ inl x ↦ inl (omega (arith, ints, ap (distance_of labels'') x, u.distance_here)) | inr x ↦ elim (f.distance w) [ inl p ↦ inl (omega (arith, ints, p, u.distance_kept w x)) | inr p ↦ inr (u.distance_kept w x ∙ p) ] ];
      place = λ w. elim (cases_eq w v) [ inl x ↦ inl (ap (place_of labels'') x ∙ u.place_here) | inr x ↦ elim (f.place w) [ inl p ↦ inl (u.place_kept w x ∙ p) | inr p ↦ inr (u.place_kept w x ∙ p) ] ];
      distance_here = λ j h. elim (cases_eq (slice_index nodes j) v) [
        | inl x ↦ omega (arith, ints, ap (distance_of labels'') x, u.distance_here)
        | inr x ↦ omega (arith, ints, u.distance_kept (slice_index nodes j) x, f.distance_here j (before j h x))
      ];
      place_here = λ j h. elim (cases_eq (slice_index nodes j) v) [
        | inl x ↦ ap (place_of labels'') x ∙ u.place_here
        | inr x ↦ u.place_kept (slice_index nodes j) x ∙ f.place_here j (before j h x)
      ];
    }
  where
    before : (j : ℕ) → j < k + 1 → (slice_index nodes j ≡ v → ⊥) → j < k
    before j h x = elim (cases_eq j k) [ inl p ↦ absurd (x (ap (slice_index nodes) p ∙ sym e)) | inr p ↦ omega (arith, h, p) ]

-- the reached nodes, and then those that wait
pub all_forgotten : (n : ℕ) (labels labels' labels'' : List Label) (order frontier : ℕ → ℕ) (reached waiting : ℕ) (ns ms : List ℕ) → Listed n (distance_of labels) (place_of labels) order frontier reached waiting →
    Forgotten n ns reached labels labels' → Forgotten n ms waiting labels' labels'' → ((k : ℕ) → k < reached → slice_index ns k ≡ order k) → ((k : ℕ) → k < waiting → slice_index ms k ≡ frontier k) → AllUnlabelled n labels''
all_forgotten n labels labels' labels'' order frontier reached waiting ns ms i a b ns_are ms_are =
    record {
      distance = λ v h. elim (b.distance v) [
        | inl f ↦ f
        | inr e ↦ elim (a.distance v) [
          | inl f ↦ omega (arith, ints, e, f)
          | inr g ↦ elim (cases_lt_ℤ (distance_of labels v) infinity) [
            | inr f ↦ omega (arith, ints, e, g, f)
            | inl f ↦ elim (met_is n (distance_of labels) (place_of labels) order frontier reached waiting i v h f) [
              | inl p ↦ omega (arith, ints, e, a.distance_here (place_of labels v) p, ap (distance_of labels') (ns_are (place_of labels v) p ∙ i.there v h p))
              | inr q ↦ omega (arith, ints, b.distance_here q.0 q.1, ap (distance_of labels'') (ms_are q.0 q.1 ∙ q.2))
            ]
          ]
        ]
      ];
      place = λ v h. elim (b.place v) [
        | inl f ↦ f
        | inr e ↦ elim (a.place v) [
          | inl f ↦ e ∙ f
          | inr g ↦ elim (cases_lt (place_of labels v) reached) [
            | inl p ↦ e ∙ (ap (place_of labels') (sym (ns_are (place_of labels v) p ∙ i.there v h p)) ∙ a.place_here (place_of labels v) p)
            | inr p ↦ e ∙ (g ∙ i.beyond v h p)
          ]
        ]
      ];
    }
