-- Moving along a tight step keeps reduced costs at 0 or above, and costs that are ready.
use Rattle.std.proofs.Common.{◌≡◌, ℕ, zero, suc, ◌<◌, ◌⊎◌, ℤ, pos, ◌+ℤ◌, ◌-ℤ◌, neg_ℤ, ◌≢◌, ◌≤ℤ◌, nat_abs, sym, ap, ◌∙◌, ap₂, subst, true, inl, inr, arith}
use Rattle.std.proofs.lemmas.Int.{ints}
use Rattle.std.proofs.lemmas.Bool.{cases_eq}
use Rattle.net_cells.specs.Net.{Residual, Feasible, Ready, Tight, back, unit, price, reduced}
use Rattle.net_cells.specs.Moves.{Moved, Fits}
use Rattle.net_cells_theory.specs.Promise.{MovingKeeps}
use Rattle.net_cells_theory.proofs.Edge.{moved_tight, from_reduced, reduced_least, reduced_back_least, unit_price}
use Rattle.net_cells_theory.proofs.Ways.{back_less, back_twice}

pub cases_pair : (x y f g : ℕ) → ((x ≡ y) × (f ≡ g)) ⊎ (x ≡ y → f ≡ g → ⊥)
cases_pair x y f g = elim (cases_eq x y) [
  | inl p ↦ elim (cases_eq f g) [ inl q ↦ inl (p, q) | inr q ↦ inr (λ _ z. q z) ]
  | inr p ↦ inr (λ z _. p z)
]

module _ (g h : Residual) (flow flow' : ℕ → ℕ → ℤ) (u d : ℕ) (a : ℤ) (w : Feasible g) (y : Ready g flow) (i : g.inner u ≡ true) (l : d < 4)
    (o : flow (g.head u d) (back d) ≡ neg_ℤ (flow u d)) (r : reduced g u d ≡ pos 0) (f : Fits a (flow u d)) (m : Moved u d a g h flow flow') where
  abbrev pub here_costs : ℕ
  here_costs = price g u d

  -- the edge
  tight_before : Tight (price g u d) (flow u d) (g.potential (g.head u d) -ℤ g.potential u)
  tight_before =
      from_reduced (price g u d) (flow u d) (g.potential u) (g.potential (g.head u d))
      (omega (arith, ints, w.forward u d i l, y.here u d i l)) (omega (arith, ints, w.backward u d i l, y.there u d i l))

  tight_after : Tight (price g u d) (flow u d +ℤ a) (g.potential (g.head u d) -ℤ g.potential u)
  tight_after = moved_tight (price g u d) a (flow u d) (g.potential u) (g.potential (g.head u d)) f (omega (arith, ints, y.here u d i l)) tight_before

  along_here : pos 0 ≤ℤ ((unit (price g u d) (flow' u d) +ℤ g.potential u) -ℤ g.potential (g.head u d))
  along_here = reduced_least (price g u d) (flow' u d) (g.potential u) (g.potential (g.head u d)) (rw m.here tight_after)

  back_here : pos 0 ≤ℤ ((unit (price g u d) (neg_ℤ (flow' u d)) +ℤ g.potential (g.head u d)) -ℤ g.potential u)
  back_here = reduced_back_least (price g u d) (flow' u d) (g.potential u) (g.potential (g.head u d)) (rw m.here tight_after)

  -- the three cases of a way: it is the one, it is the one the other way, or it is of another edge
  pub record Both (v e : ℕ) : Type 0 where
    pub along : pos 0 ≤ℤ ((h.cost v e +ℤ g.potential v) -ℤ g.potential (g.head v e))
    pub back_along : pos 0 ≤ℤ ((h.cost (g.head v e) (back e) +ℤ g.potential (g.head v e)) -ℤ g.potential v)
    pub ready : h.cost v e ≡ unit (nat_abs (h.cost v e)) (flow' v e)
    pub ready_back : h.cost (g.head v e) (back e) ≡ unit (nat_abs (h.cost v e)) (neg_ℤ (flow' v e))

  both_here : Both u d
  both_here = record {
    along = omega (arith, ints, along_here, m.cost_here);
    back_along = omega (arith, ints, back_here, m.cost_there);
    ready = m.cost_here ∙ ap (λ (p : ℕ). unit p (flow' u d)) (sym is_price);
    ready_back = m.cost_there ∙ ap (λ (p : ℕ). unit p (neg_ℤ (flow' u d))) (sym is_price);
  }
    where
      is_price : nat_abs (h.cost u d) ≡ price g u d
      is_price = ap nat_abs m.cost_here ∙ unit_price (price g u d) (flow' u d)

  both_there : g.inner (g.head u d) ≡ true → Both (g.head u d) (back d)
  both_there j = record {
    along = omega (arith, ints, back_here, m.cost_there, ap g.potential (w.paired.home u d i l));
    back_along = omega (arith, ints, along_here, m.cost_here, ap g.potential (w.paired.home u d i l), ap₂ h.cost (w.paired.home u d i l) (back_twice d l));
    ready = m.cost_there ∙ (ap (λ (p : ℕ). unit p (neg_ℤ (flow' u d))) (sym is_price) ∙ ap (unit (nat_abs (h.cost (g.head u d) (back d)))) (sym negated));
    ready_back =
        ap₂ h.cost (w.paired.home u d i l) (back_twice d l)
        ∙ (m.cost_here ∙ (ap (λ (p : ℕ). unit p (flow' u d)) (sym is_price) ∙ ap (unit (nat_abs (h.cost (g.head u d) (back d)))) (sym twice)));
  }
    where
      negated : flow' (g.head u d) (back d) ≡ neg_ℤ (flow' u d)
      negated = omega (arith, ints, m.there, o, m.here)

      twice : neg_ℤ (flow' (g.head u d) (back d)) ≡ flow' u d
      twice = omega (arith, ints, negated)

      is_price : nat_abs (h.cost (g.head u d) (back d)) ≡ price g u d
      is_price = ap nat_abs m.cost_there ∙ unit_price (price g u d) (neg_ℤ (flow' u d))

  both_other : (v e : ℕ) → g.inner v ≡ true → e < 4 → (v ≡ u → e ≡ d → ⊥) → (v ≡ g.head u d → e ≡ back d → ⊥) → Both v e
  both_other v e j k p q = record {
    along = omega (arith, ints, w.forward v e j k, m.cost_other v e k p q);
    back_along = omega (arith, ints, w.backward v e j k, m.cost_other (g.head v e) (back e) (back_less e k) p' q');
    ready = m.cost_other v e k p q ∙ (y.here v e j k ∙ ap₂ unit (ap nat_abs (sym (m.cost_other v e k p q))) (sym (m.other v e j k p q)));
    ready_back =
        m.cost_other (g.head v e) (back e) (back_less e k) p' q'
        ∙ (y.there v e j k ∙ ap₂ unit (ap nat_abs (sym (m.cost_other v e k p q))) (ap neg_ℤ (sym (m.other v e j k p q))));
  }
    where
      p' : g.head v e ≡ u → back e ≡ d → ⊥
      p' x z = q (sym (w.paired.home v e j k) ∙ ap₂ g.head x z) (sym (back_twice e k) ∙ ap back z)

      q' : g.head v e ≡ g.head u d → back e ≡ back d → ⊥
      q' x z = p (sym (w.paired.home v e j k) ∙ (ap₂ g.head x z ∙ w.paired.home u d i l)) (sym (back_twice e k) ∙ (ap back z ∙ back_twice d l))

  pub both : (v e : ℕ) → g.inner v ≡ true → e < 4 → Both v e
  both v e j k = elim (cases_pair v u e d) [
    | inl p ↦ subst (λ (x : ℕ). Both x e) (sym p.0) (subst (λ (x : ℕ). Both u x) (sym p.1) both_here)
    | inr p ↦ elim (cases_pair v (g.head u d) e (back d)) [
      | inl q ↦ subst (λ (x : ℕ). Both x e) (sym q.0) (subst (λ (x : ℕ). Both (g.head u d) x) (sym q.1) (both_there (subst (λ (x : ℕ). g.inner x ≡ true) q.0 j)))
      | inr q ↦ both_other v e j k p q
    ]
  ]

  keeps_feasible : Feasible h
  keeps_feasible = record {
    paired = record {
      home = λ v e j k. m.head (h.head v e) (back e) ∙ (ap (λ (x : ℕ). g.head x (back e)) (m.head v e) ∙ w.paired.home v e (sym (m.inner v) ∙ j) k);
      apart = λ v e j k z. w.paired.apart v e (sym (m.inner v) ∙ j) k (sym (m.head v e) ∙ z);
    };
    forward = λ v e j k. omega (arith, ints, (both v e (sym (m.inner v) ∙ j) k).along, m.potential v, m.potential (h.head v e), ap g.potential (m.head v e));
    backward = λ v e j k.
        omega (arith, ints, (both v e (sym (m.inner v) ∙ j) k).back_along, ap (λ (x : ℕ). h.cost x (back e)) (m.head v e), m.potential v, m.potential (h.head v e), ap g.potential (m.head v e));
    outside = λ v z. m.potential v ∙ w.outside v (sym (m.inner v) ∙ z);
  }

  keeps_ready : Ready h flow'
  keeps_ready = record {
    here = λ v e j k. (both v e (sym (m.inner v) ∙ j) k).ready;
    there = λ v e j k. ap (λ (x : ℕ). h.cost x (back e)) (m.head v e) ∙ (both v e (sym (m.inner v) ∙ j) k).ready_back;
  }

pub moving_keeps : MovingKeeps
moving_keeps g h flow flow' u d a w y i l o r f m =
    (keeps_feasible g h flow flow' u d a w y i l o r f m, keeps_ready g h flow flow' u d a w y i l o r f m)
