-- What a search keeps, step by step.
use Rattle.std.proofs.Common.{◌≡◌, ℕ, suc, ◌<◌, ◌⊎◌, Bool, ℤ, pos, ◌+ℤ◌, ◌≤ℤ◌, ◌<ℤ◌, ◌≢◌, sym, ap, ◌∙◌, subst, ap₂, true, false, inl, inr, arith}
use Rattle.std.proofs.lemmas.Int.{ints}
use Rattle.std.proofs.lemmas.Bool.{cases_eq, cases_Bool, both_ways}
use Rattle.net_cells.specs.Net.{Residual, Feasible, reduced}
use Rattle.net_cells.specs.Search.{Search, Parent, Passed, IsEnd, Aimed, Searching, Relabelled, Relaxed}
use Rattle.net_cells_theory.specs.Promise.{SearchBegins, TakingKeeps, PassingKeeps, RelaxingKeeps, SearchEnds}
use Rattle.net_cells_theory.proofs.Edge.{cases_lt_ℤ}

pub search_begins : SearchBegins
search_begins n within far open_at k hand b =
    record {
      is_inner = b.is_inner;
      no_label = b.no_label;
      least = λ v. elim (cases_eq v k.source) [ inl e ↦ omega (arith, ints, ap k.label e, b.no_label) | inr ne ↦ omega (arith, ints, b.blank v ne, b.allowed, b.near) ];
      parent = λ v ne h. absurd (omega (arith, ints, b.blank v ne));
      passed = λ u d i l h o c. absurd (passed u h o);
      ends = ends;
      aims = λ h. absurd (omega (arith, ints, b.bound));
      bounded = omega (arith, ints, b.bound);
      near = b.near;
    }
  where
    passed : (u : ℕ) → k.label u <ℤ k.bound → open_at u ≡ false → ⊥
    passed u h o = elim (cases_eq u k.source) [
      | inl e ↦ both_ways (open_at u) o (ap open_at e ∙ b.open_source)
      | inr ne ↦ absurd (omega (arith, ints, b.blank u ne, b.near, b.bound))
    ]

    not_source : (v : ℕ) → IsEnd n v → (v ≢ k.source)
    not_source v (inl z) e = both_ways (n.inner k.source) (ap n.inner (sym e) ∙ z) b.is_inner
    not_source v (inr c) e = absurd (omega (arith, ints, ap n.excess e, c, b.some))

    ends : (v : ℕ) → IsEnd n v → k.bound ≤ℤ k.label v
    ends v c = omega (arith, ints, b.blank v (not_source v c), b.near, b.bound)

pub taking_keeps : TakingKeeps
taking_keeps n within far was now k hand u g e =
    record {
      is_inner = g.is_inner;
      no_label = g.no_label;
      least = g.least;
      parent = g.parent;
      passed = λ x d i l h o c. elim (cases_eq x u) [
        | inl z ↦ absurd (omega (arith, c z))
        | inr z ↦ g.passed x d i l h (sym (e x z) ∙ o) (λ _. l)
      ];
      ends = g.ends;
      aims = g.aims;
      bounded = g.bounded;
      near = g.near;
    }

pub passing_keeps : PassingKeeps
passing_keeps n within far open_at k u d g p =
    record {
      is_inner = g.is_inner;
      no_label = g.no_label;
      least = g.least;
      parent = g.parent;
      passed = passed;
      ends = g.ends;
      aims = g.aims;
      bounded = g.bounded;
      near = g.near;
    }
  where
    passed : (x e : ℕ) → n.inner x ≡ true → e < 4 → k.label x <ℤ k.bound → open_at x ≡ false → (x ≡ u → e < suc d) → Passed n k x e
    passed x e i l h o c = elim (cases_eq x u) [
      | inl z ↦ elim (cases_eq e d) [
        | inl y ↦ rw z (rw y p)
        | inr y ↦ g.passed x e i l h o (λ _. omega (arith, c z, y))
      ]
      | inr z ↦ g.passed x e i l h o (λ y. absurd (z y))
    ]

pub search_ends : SearchEnds
search_ends n within far open_at k hand g e =
    record {
      is_inner = g.is_inner;
      no_label = g.no_label;
      least = g.least;
      parent = g.parent;
      passed = λ u d i l h. g.passed u d i l h (e u i h) (λ _. l);
      ends = g.ends;
      aims = g.aims;
      bounded = g.bounded;
      near = g.near;
    }

module _ (n : Residual) (within far : ℤ) (was now : ℕ → Bool) (k k' : Search) (u d : ℕ) (w : Feasible n)
    (g : Searching n within far was u d k) (i : n.inner u ≡ true) (l : d < 4)
    (lower : (k.label u +ℤ reduced n u d) <ℤ k.label (n.head u d)) (below : (k.label u +ℤ reduced n u d) <ℤ k.bound)
    (r : Relaxed n u d was now k k') where
  abbrev pub v : ℕ
  v = n.head u d

  abbrev pub R : Relabelled n u d k k'
  R = r.relabelled

  cost_some : (x e : ℕ) → n.inner x ≡ true → e < 4 → pos 0 ≤ℤ reduced n x e
  cost_some x e j m = w.forward x e j m

  apart : (u ≢ v)
  apart z = w.paired.apart u d i l (sym z)

  not_source : (k.source ≢ v)
  not_source z = absurd (omega (arith, ints, ap k.label z, g.no_label, g.least u, cost_some u d i l))

  label_u : k'.label u ≡ k.label u
  label_u = R.label_kept u apart

  -- no label has grown
  label_le : (x : ℕ) → k'.label x ≤ℤ k.label x
  label_le x = elim (cases_eq x v) [
    | inl z ↦ rw z (omega (arith, ints, R.label_here))
    | inr z ↦ omega (arith, ints, R.label_kept x z)
  ]

  cases_end : (x : ℕ) → (IsEnd n x) ⊎ (IsEnd n x → ⊥)
  cases_end x = elim (cases_Bool (n.inner x)) [
    | inl j ↦ elim (cases_lt_ℤ (n.excess x) (pos 0)) [
      | inl c ↦ inl (inr c)
      | inr c ↦ inr (λ e. neither j c e)
    ]
    | inr j ↦ inl (inl j)
  ]
    where
      neither : n.inner x ≡ true → pos 0 ≤ℤ n.excess x → IsEnd n x → ⊥
      neither j c (inl y) = both_ways (n.inner x) y j
      neither j c (inr y) = absurd (omega (arith, ints))

  bound_le : k'.bound ≤ℤ k.bound
  bound_le = elim (cases_end v) [
    | inl e ↦ omega (arith, ints, r.end_bound e)
    | inr e ↦ omega (arith, ints, r.else_bound e)
  ]

  least : (x : ℕ) → pos 0 ≤ℤ k'.label x
  least x = elim (cases_eq x v) [
    | inl z ↦ rw z (omega (arith, ints, R.label_here, g.least u, cost_some u d i l))
    | inr z ↦ omega (arith, ints, R.label_kept x z, g.least x)
  ]

  parent : (x : ℕ) → (x ≢ k'.source) → k'.label x <ℤ far → Parent n k' x
  parent x ne h = elim (cases_eq x v) [
    | inl z ↦ rw z here
    | inr z ↦ elsewhere z (g.parent x (λ y. ne (y ∙ sym R.source)) (omega (arith, ints, R.label_kept x z)))
  ]
    where
      here : Parent n k' v
      here = record {
        inner = rw R.from_here i;
        is_way = rw R.way_here l;
        head = ap₂ n.head R.from_here R.way_here;
        least = rw R.from_here (rw R.way_here (omega (arith, ints, R.label_here, label_u)));
        earlier = λ _. rw R.from_here (omega (arith, R.time_here, R.time_kept u apart));
      }

      elsewhere : (x ≢ v) → Parent n k x → Parent n k' x
      elsewhere z p = record {
        inner = rw (R.from_kept x z) p.inner;
        is_way = rw (R.way_kept x z) p.is_way;
        head = ap₂ n.head (R.from_kept x z) (R.way_kept x z) ∙ p.head;
        least = rw (R.from_kept x z) (rw (R.way_kept x z) (omega (arith, ints, p.least, label_le (k.from x), R.label_kept x z)));
        earlier = rw (R.from_kept x z) (rw (R.way_kept x z) (λ e. times e (cases_eq (k.from x) v)));
      }
        where
          times : k'.label (k.from x) +ℤ reduced n (k.from x) (k.way x) ≡ k'.label x → ((k.from x ≡ v) ⊎ (k.from x ≢ v)) → k'.time (k.from x) < k'.time x
          times e (inl y) = absurd (omega (arith, ints, e, R.label_kept x z, p.least, ap k.label y, ap k'.label y, R.label_here))
          times e (inr y) = omega (arith, R.time_kept (k.from x) y, R.time_kept x z, p.earlier (omega (arith, ints, e, R.label_kept x z, R.label_kept (k.from x) y)))

  passed : (x e : ℕ) → n.inner x ≡ true → e < 4 → k'.label x <ℤ k'.bound → now x ≡ false → (x ≡ u → e < suc d) → Passed n k' x e
  passed x e j m h o c = elim (cases_eq x v) [
    | inl z ↦ absurd (at_head z)
    | inr z ↦ elim (cases_eq x u) [
      | inl y ↦ elim (cases_eq e d) [
        | inl q ↦ rw y (rw q (inl (omega (arith, ints, R.label_here, label_u))))
        | inr q ↦ still z (g.passed x e j m (omega (arith, ints, bound_le, R.label_kept x z)) (sym (r.open_kept x z) ∙ o) (λ _. omega (arith, c y, q)))
      ]
      | inr y ↦ still z (g.passed x e j m (omega (arith, ints, bound_le, R.label_kept x z)) (sym (r.open_kept x z) ∙ o) (λ q. absurd (y q)))
    ]
  ]
    where
      at_head : x ≡ v → ⊥
      at_head z = elim (cases_end v) [
        | inl q ↦ absurd (omega (arith, ints, ap k'.label z, R.label_here, r.end_bound q))
        | inr q ↦ both_ways (now x) o (ap now z ∙ r.else_open q)
      ]

      still : (x ≢ v) → Passed n k x e → Passed n k' x e
      still z (inl q) = inl (omega (arith, ints, label_le (n.head x e), R.label_kept x z))
      still z (inr q) = inr (omega (arith, ints, bound_le, R.label_kept x z))

  ends : (x : ℕ) → IsEnd n x → k'.bound ≤ℤ k'.label x
  ends x e = elim (cases_eq x v) [
    | inl z ↦ rw z (omega (arith, ints, R.label_here, r.end_bound (subst (IsEnd n) z e)))
    | inr z ↦ omega (arith, ints, R.label_kept x z, bound_le, g.ends x e)
  ]

  aims : k'.bound <ℤ within → Aimed n k'
  aims h = elim (cases_end v) [
    | inl e ↦ record { end = rw (r.end_target e) e; label = rw (r.end_target e) (R.label_here ∙ sym (r.end_bound e)) }
    | inr e ↦ old e (g.aims (omega (arith, ints, r.else_bound e)))
  ]
    where
      old : (IsEnd n v → ⊥) → Aimed n k → Aimed n k'
      old e a = record {
        end = rw (r.else_target e) a.end;
        label = rw (r.else_target e) (R.label_kept k.target (λ z. e (subst (IsEnd n) z a.end)) ∙ (a.label ∙ sym (r.else_bound e)));
      }

pub relaxing_keeps : RelaxingKeeps
relaxing_keeps n within far was now k k' u d w g i l lower below r =
    record {
      is_inner = rw r.relabelled.source g.is_inner;
      no_label = rw r.relabelled.source (r.relabelled.label_kept k.source (not_source n within far was now k k' u d w g i l lower below r) ∙ g.no_label);
      least = least n within far was now k k' u d w g i l lower below r;
      parent = parent n within far was now k k' u d w g i l lower below r;
      passed = passed n within far was now k k' u d w g i l lower below r;
      ends = ends n within far was now k k' u d w g i l lower below r;
      aims = aims n within far was now k k' u d w g i l lower below r;
      bounded = omega (arith, ints, g.bounded, bound_le n within far was now k k' u d w g i l lower below r);
      near = g.near;
    }
