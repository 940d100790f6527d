-- What a push along one arc leaves: it is a flow still, priced if the arc's reduced cost was 0, and moves excess from tail to head.
use Rattle.std.proofs.Common.{◌≡◌, ℕ, ◌+◌, ◌<◌, ◌≤◌, cond, eqb, ◌⊎◌, ℤ, pos, negsuc, ◌+ℤ◌, ◌-ℤ◌, neg_ℤ, nat_abs, ◌≤ℤ◌, ◌<ℤ◌, sym, refl, ap, ◌∙◌, inl, inr, arith}
use borrow.Author.Differences.{up}
use Rattle.std.proofs.lemmas.Int.{ints}
use Rattle.std.proofs.lemmas.Bool.{eq-eqb, ne_eqb, cases_eq, cond-true, cond-false}
use Rattle.sums.specs.Sum.{sum_ℤ}
use Rattle.sums.proofs.Sum.{sum_ℤ_ext, sum_ℤ_le, sum_ℤ_add, sum_ℤ_neg}
use Rattle.sums.proofs.Points.{point_sum}
use Rattle.net_graph.specs.Graph.{Graph, at, IsNetwork, unit_cost, residual_capacity, reduced_cost, outflow, IsPseudoflow, IsReducedCostOptimal}
use Rattle.net_graph.specs.Sound.{State, Pushed, outgoing, incoming}
use Rattle.net_graph.proofs.Points.{cases_lt_ℤ, at_same, at_other, at_neg, unit_forward, unit_backward, unit_same, residual_forward, residual_backward, head_pair}

module _ (g : Graph) (w : IsNetwork g) (x y : ℕ → ℤ) (a : ℕ) (l : a < g.arcs) (d : ℤ) (changed : (b : ℕ) → y b ≡ ((x b +ℤ at a d b) -ℤ at (g.pair a) d b)) where
  pub pushed_here : y a ≡ (x a +ℤ d)
  pushed_here = omega (arith, ints, changed a, at_same a a d refl, at_other (g.pair a) a d (λ e. (w.arc a l).apart (sym e)))

  pub pushed_back : y (g.pair a) ≡ (x (g.pair a) -ℤ d)
  pushed_back = omega (arith, ints, changed (g.pair a), at_same (g.pair a) (g.pair a) d refl, at_other a (g.pair a) d (w.arc a l).apart)

  pub pushed_other : (b : ℕ) → (b ≡ a → ⊥) → (b ≡ g.pair a → ⊥) → y b ≡ x b
  pushed_other b n m = omega (arith, ints, changed b, at_other (g.pair a) b d m, at_other a b d n)

  -- any arc is a, its pair, or another
  pub by_arc : (P : ℕ → Type 0) → P a → P (g.pair a) → ((b : ℕ) → (b ≡ a → ⊥) → (b ≡ g.pair a → ⊥) → P b) → (b : ℕ) → P b
  by_arc P here back other b = elim (cases_eq b a) [
    | inl e ↦ rw e here
    | inr n ↦ elim (cases_eq b (g.pair a)) [ inl e ↦ rw e back | inr m ↦ other b n m ]
  ]

  pub pushed_moved : (b : ℕ) → nat_abs (y b) ≤ nat_abs (x b) + nat_abs d
  pushed_moved = by_arc (λ b. nat_abs (y b) ≤ nat_abs (x b) + nat_abs d) (omega (arith, ints, pushed_here)) (omega (arith, ints, pushed_back)) (λ b n m. omega (arith, ints, pushed_other b n m))

  pub pushed_opposite : ((b : ℕ) → b < g.arcs → x (g.pair b) ≡ neg_ℤ (x b)) → (b : ℕ) → b < g.arcs → y (g.pair b) ≡ neg_ℤ (y b)
  pushed_opposite o = by_arc (λ b. b < g.arcs → y (g.pair b) ≡ neg_ℤ (y b))
      (λ h. omega (arith, ints, pushed_here, pushed_back, o a l))
      (λ h. omega (arith, ints, pushed_here, pushed_back, o a l, ap y (w.arc a l).back))
      (λ b n m h. omega (arith, ints, pushed_other b n m, o b h, pushed_other (g.pair b) (λ e. m (sym (w.arc b h).back ∙ ap g.pair e)) (λ e. n (sym (w.arc b h).back ∙ (ap g.pair e ∙ (w.arc a l).back)))))

  module _ (flows : IsPseudoflow g x) (least : pos 0 ≤ℤ d) (fits : d ≤ℤ residual_capacity g x a) where
    pub pushed_within : (b : ℕ) → b < g.arcs → y b ≤ℤ g.limit b
    pushed_within = by_arc (λ b. b < g.arcs → y b ≤ℤ g.limit b)
        (λ h. elim (cases_lt_ℤ (x a) (pos 0)) [
          | inl k ↦ omega (arith, ints, pushed_here, residual_backward g x a k, (w.arc a l).allowed)
          | inr k ↦ omega (arith, ints, pushed_here, residual_forward g x a k)
        ])
        (λ h. omega (arith, ints, pushed_back, flows.within (g.pair a) h))
        (λ b n m h. omega (arith, ints, pushed_other b n m, flows.within b h))

    pub pushed_flow : IsPseudoflow g y
    pushed_flow = record { opposite = pushed_opposite flows.opposite; within = pushed_within }

    -- the arc pushed along: its unit costs as much as before, or no less where it comes to 0; its pair's unit gives that back
    unit_here : unit_cost g x a ≤ℤ unit_cost g y a
    unit_here = elim (cases_lt_ℤ (x a) (pos 0)) [
      | inl k ↦ elim (cases_lt_ℤ (y a) (pos 0)) [
        | inl m ↦ omega (arith, ints, unit_backward g x a k, unit_backward g y a m)
        | inr m ↦ omega (arith, ints, unit_backward g x a k, unit_forward g y a m, (w.arc a l).convex)
      ]
      | inr k ↦ omega (arith, ints, unit_forward g x a k, unit_forward g y a (omega (arith, ints, pushed_here)))
    ]

    unit_back : pos 0 <ℤ d → unit_cost g y (g.pair a) ≡ neg_ℤ (unit_cost g x a)
    unit_back more = elim (cases_lt_ℤ (x a) (pos 0)) [
      | inl k ↦ omega (arith, ints, unit_backward g x a k, unit_forward g y (g.pair a) (omega (arith, ints, pushed_back, residual_backward g x a k, flows.opposite a l)))
      | inr k ↦ omega (arith, ints, unit_forward g x a k, unit_backward g y (g.pair a) (omega (arith, ints, pushed_back, flows.opposite a l)), ap g.cost (w.arc a l).back)
    ]

    pub pushed_priced : (p : ℕ → ℤ) → pos 0 <ℤ d → IsReducedCostOptimal g x p → reduced_cost g x p a ≡ pos 0 → IsReducedCostOptimal g y p
    pushed_priced p more priced tight = by_arc (λ b. b < g.arcs → y b <ℤ g.limit b → pos 0 ≤ℤ reduced_cost g y p b)
        (λ h o. omega (arith, ints, tight, unit_here))
        (λ h o. omega (arith, ints, tight, unit_back more, ap p (head_pair g a w l), ap p (w.arc a l).turned))
        (λ b n m h o. let e : y b ≡ x b = pushed_other b n m in omega (arith, ints, unit_same g y x b e, priced b h (omega (arith, ints, e))))

  -- what leaves a node: at the tail so much more, at the head so much less
  out_term : (v b : ℕ) → b < g.arcs → cond (eqb (g.tail b) v) (y b) (pos 0) ≡ ((cond (eqb (g.tail b) v) (x b) (pos 0) +ℤ at a (at (g.tail a) d v) b) +ℤ neg_ℤ (at (g.pair a) (at (g.head a) d v) b))
  out_term v b h = elim (cases_eq (g.tail b) v) [
    | inl e ↦ at_node e
    | inr n ↦ elsewhere n
  ]
    where
      tests : (z : ℤ) → (g.tail b ≡ v) → cond (eqb (g.tail b) v) z (pos 0) ≡ z
      tests z e = cond-true (eqb (g.tail b) v) z (pos 0) (eq-eqb (g.tail b) v e)

      fails : (z : ℤ) → (g.tail b ≡ v → ⊥) → cond (eqb (g.tail b) v) z (pos 0) ≡ pos 0
      fails z n = cond-false (eqb (g.tail b) v) z (pos 0) (ne_eqb (g.tail b) v n)

      ahead : (b ≡ a) ⊎ (b ≡ a → ⊥) → (g.tail b ≡ v) → at a (at (g.tail a) d v) b ≡ at a d b
      ahead (inl i) e = at_same a b (at (g.tail a) d v) i ∙ (at_same (g.tail a) v d (sym e ∙ ap g.tail i) ∙ sym (at_same a b d i))
      ahead (inr n) e = at_other a b (at (g.tail a) d v) n ∙ sym (at_other a b d n)

      behind : (b ≡ g.pair a) ⊎ (b ≡ g.pair a → ⊥) → (g.tail b ≡ v) → at (g.pair a) (at (g.head a) d v) b ≡ at (g.pair a) d b
      behind (inl i) e = at_same (g.pair a) b (at (g.head a) d v) i ∙ (at_same (g.head a) v d (sym e ∙ (ap g.tail i ∙ (w.arc a l).turned)) ∙ sym (at_same (g.pair a) b d i))
      behind (inr n) e = at_other (g.pair a) b (at (g.head a) d v) n ∙ sym (at_other (g.pair a) b d n)

      ahead_no : (b ≡ a) ⊎ (b ≡ a → ⊥) → (g.tail b ≡ v → ⊥) → at a (at (g.tail a) d v) b ≡ pos 0
      ahead_no (inl i) e = at_same a b (at (g.tail a) d v) i ∙ at_other (g.tail a) v d (λ q. e (ap g.tail i ∙ sym q))
      ahead_no (inr n) e = at_other a b (at (g.tail a) d v) n

      behind_no : (b ≡ g.pair a) ⊎ (b ≡ g.pair a → ⊥) → (g.tail b ≡ v → ⊥) → at (g.pair a) (at (g.head a) d v) b ≡ pos 0
      behind_no (inl i) e = at_same (g.pair a) b (at (g.head a) d v) i ∙ at_other (g.head a) v d (λ q. e (ap g.tail i ∙ ((w.arc a l).turned ∙ sym q)))
      behind_no (inr n) e = at_other (g.pair a) b (at (g.head a) d v) n

      at_node : (g.tail b ≡ v) → cond (eqb (g.tail b) v) (y b) (pos 0) ≡ ((cond (eqb (g.tail b) v) (x b) (pos 0) +ℤ at a (at (g.tail a) d v) b) +ℤ neg_ℤ (at (g.pair a) (at (g.head a) d v) b))
      at_node e = omega (arith, ints, tests (y b) e, tests (x b) e, changed b, ahead (cases_eq b a) e, behind (cases_eq b (g.pair a)) e)

      elsewhere : (g.tail b ≡ v → ⊥) → cond (eqb (g.tail b) v) (y b) (pos 0) ≡ ((cond (eqb (g.tail b) v) (x b) (pos 0) +ℤ at a (at (g.tail a) d v) b) +ℤ neg_ℤ (at (g.pair a) (at (g.head a) d v) b))
      elsewhere n = omega (arith, ints, fails (y b) n, fails (x b) n, ahead_no (cases_eq b a) n, behind_no (cases_eq b (g.pair a)) n)

  pub pushed_outflow : (v : ℕ) → outflow g y v ≡ ((outflow g x v +ℤ at (g.tail a) d v) -ℤ at (g.head a) d v)
  unfolding outflow
  pushed_outflow v =
      omega (arith, ints, agree, sum_ℤ_add g.arcs (λ b. X b +ℤ A b) (λ b. neg_ℤ (B b)), sum_ℤ_add g.arcs X A, sum_ℤ_neg g.arcs B, point_sum g.arcs a (at (g.tail a) d v) l, point_sum g.arcs (g.pair a) (at (g.head a) d v) (w.arc a l).pair)
    where
      X : ℕ → ℤ
      X b = cond (eqb (g.tail b) v) (x b) (pos 0)

      A : ℕ → ℤ
      A b = at a (at (g.tail a) d v) b

      B : ℕ → ℤ
      B b = at (g.pair a) (at (g.head a) d v) b

      agree : sum_ℤ g.arcs (λ b. cond (eqb (g.tail b) v) (y b) (pos 0)) ≡ sum_ℤ g.arcs (λ b. (X b +ℤ A b) +ℤ neg_ℤ (B b))
      agree = sum_ℤ_ext g.arcs (λ b. cond (eqb (g.tail b) v) (y b) (pos 0)) (λ b. (X b +ℤ A b) +ℤ neg_ℤ (B b)) (λ b h. out_term v b h)

-- ---- what goes through a node

up_more : (z d : ℤ) → pos 0 ≤ℤ d → pos (up (z +ℤ d)) ≤ℤ (pos (up z) +ℤ d)
up_more z d h = up_split z (z +ℤ d) d refl h
  where
    up_split : (z y d : ℤ) → y ≡ (z +ℤ d) → pos 0 ≤ℤ d → pos (up y) ≤ℤ (pos (up z) +ℤ d)
    up_split (pos n) (pos m) d e h = omega (arith, ints)
    up_split (pos n) (negsuc m) d e h = omega (arith, ints)
    up_split (negsuc n) (pos m) d e h = omega (arith, ints)
    up_split (negsuc n) (negsuc m) d e h = omega (arith, ints)

up_less : (z y d : ℤ) → y ≡ (z -ℤ d) → pos 0 ≤ℤ d → pos (up y) ≤ℤ pos (up z)
up_less (pos n) (pos m) d e h = omega (arith, ints)
up_less (pos n) (negsuc m) d e h = omega (arith, ints)
up_less (negsuc n) (pos m) d e h = absurd (omega (arith, ints))
up_less (negsuc n) (negsuc m) d e h = omega (arith, ints)

-- y is x with d more at one place, whose tail is t, and no more at any other
module _ (g : Graph) (x y : ℕ → ℤ) (a : ℕ) (l : a < g.arcs) (d : ℤ) (least : pos 0 ≤ℤ d) (here : y a ≡ (x a +ℤ d)) (other : (b : ℕ) → b < g.arcs → (b ≡ a → ⊥) → pos (up (y b)) ≤ℤ pos (up (x b))) where
  term : (v b : ℕ) → b < g.arcs → cond (eqb (g.tail b) v) (pos (up (y b))) (pos 0) ≤ℤ (cond (eqb (g.tail b) v) (pos (up (x b))) (pos 0) +ℤ at a (at (g.tail a) d v) b)
  term v b h = elim (cases_eq (g.tail b) v) [
    | inl e ↦ elim (cases_eq b a) [
      | inl q ↦ omega (arith, ints, yes (y b) e, yes (x b) e, at_same a b (at (g.tail a) d v) q, at_same (g.tail a) v d (sym e ∙ ap g.tail q), ap (λ (i : ℕ). pos (up (y i))) q, ap (λ (i : ℕ). pos (up (x i))) q, more)
      | inr n ↦ omega (arith, ints, yes (y b) e, yes (x b) e, at_other a b (at (g.tail a) d v) n, other b h n)
    ]
    | inr m ↦ omega (arith, ints, no (y b) m, no (x b) m, part b)
  ]
    where
      yes : (z : ℤ) → (g.tail b ≡ v) → cond (eqb (g.tail b) v) (pos (up z)) (pos 0) ≡ pos (up z)
      yes z e = cond-true (eqb (g.tail b) v) (pos (up z)) (pos 0) (eq-eqb (g.tail b) v e)

      no : (z : ℤ) → (g.tail b ≡ v → ⊥) → cond (eqb (g.tail b) v) (pos (up z)) (pos 0) ≡ pos 0
      no z n = cond-false (eqb (g.tail b) v) (pos (up z)) (pos 0) (ne_eqb (g.tail b) v n)

      more : pos (up (y a)) ≤ℤ (pos (up (x a)) +ℤ d)
      more = rw here (up_more (x a) d least)

      part : (b : ℕ) → pos 0 ≤ℤ at a (at (g.tail a) d v) b
      part b = elim (cases_eq b a) [
        | inl q ↦ elim (cases_eq v (g.tail a)) [
          | inl r ↦ omega (arith, ints, at_same a b (at (g.tail a) d v) q, at_same (g.tail a) v d r, least)
          | inr r ↦ omega (arith, ints, at_same a b (at (g.tail a) d v) q, at_other (g.tail a) v d r)
        ]
        | inr n ↦ omega (arith, ints, at_other a b (at (g.tail a) d v) n)
      ]

  -- so the sum of what is above 0 at v is no more but at the tail, and there by d at most
  pub grown : (v : ℕ) → sum_ℤ g.arcs (λ b. cond (eqb (g.tail b) v) (pos (up (y b))) (pos 0)) ≤ℤ (sum_ℤ g.arcs (λ b. cond (eqb (g.tail b) v) (pos (up (x b))) (pos 0)) +ℤ at (g.tail a) d v)
  grown v =
      omega (
        arith,
        ints,
        sum_ℤ_le g.arcs (λ b. cond (eqb (g.tail b) v) (pos (up (y b))) (pos 0)) (λ b. cond (eqb (g.tail b) v) (pos (up (x b))) (pos 0) +ℤ at a (at (g.tail a) d v) b) (term v),
        sum_ℤ_add g.arcs (λ b. cond (eqb (g.tail b) v) (pos (up (x b))) (pos 0)) (λ b. at a (at (g.tail a) d v) b),
        point_sum g.arcs a (at (g.tail a) d v) l,
      )

module _ (g : Graph) (w : IsNetwork g) (x y : ℕ → ℤ) (a : ℕ) (l : a < g.arcs) (d : ℤ) (changed : (b : ℕ) → y b ≡ ((x b +ℤ at a d b) -ℤ at (g.pair a) d b)) (least : pos 0 ≤ℤ d) where
  pub pushed_leaving : (v : ℕ) → outgoing g y v ≤ℤ (outgoing g x v +ℤ at (g.tail a) d v)
  unfolding outgoing
  pushed_leaving v = grown g x y a l d least (pushed_here g w x y a l d changed) other v
    where
      other : (b : ℕ) → b < g.arcs → (b ≡ a → ⊥) → pos (up (y b)) ≤ℤ pos (up (x b))
      other b h n = elim (cases_eq b (g.pair a)) [
        | inl q ↦ rw q (up_less (x (g.pair a)) (y (g.pair a)) d (pushed_back g w x y a l d changed) least)
        | inr m ↦ omega (arith, ints, ap (λ (z : ℤ). pos (up z)) (pushed_other g w x y a l d changed b n m))
      ]

  pub pushed_coming : (v : ℕ) → incoming g y v ≤ℤ (incoming g x v +ℤ at (g.head a) d v)
  unfolding incoming
  pushed_coming v =
      rw (w.arc a l).turned at
      (grown g (λ b. neg_ℤ (x b)) (λ b. neg_ℤ (y b)) (g.pair a) (w.arc a l).pair d least (omega (arith, ints, pushed_back g w x y a l d changed)) other v)
    where
      other : (b : ℕ) → b < g.arcs → (b ≡ g.pair a → ⊥) → pos (up (neg_ℤ (y b))) ≤ℤ pos (up (neg_ℤ (x b)))
      other b h n = elim (cases_eq b a) [
        | inl q ↦ rw q (up_less (neg_ℤ (x a)) (neg_ℤ (y a)) d (omega (arith, ints, pushed_here g w x y a l d changed)) least)
        | inr m ↦ omega (arith, ints, ap (λ (z : ℤ). pos (up (neg_ℤ z))) (pushed_other g w x y a l d changed b m n))
      ]

-- a push made of four single changes, by p, which is d, at one end of an arc and m, which is minus d, at the other
pub pushed_of :
    (g : Graph) (s t : State) (a : ℕ) (d p m : ℤ) → p ≡ d → m ≡ neg_ℤ d →
    (x : ℕ → ℤ) → ((b : ℕ) → x b ≡ (s.flow b +ℤ at a p b)) → ((b : ℕ) → t.flow b ≡ (x b +ℤ at (g.pair a) m b)) →
    (e : ℕ → ℤ) → ((v : ℕ) → e v ≡ (s.excess v +ℤ at (g.tail a) m v)) → ((v : ℕ) → t.excess v ≡ (e v +ℤ at (g.head a) p v)) →
    ((v : ℕ) → t.potential v ≡ s.potential v) → Pushed g s t a d
pushed_of g s t a d p m plus minus x here back e from to same =
    record {
      flow = λ b. omega (arith, ints, here b, back b, ap (λ (z : ℤ). at a z b) plus, at_neg (g.pair a) b m d minus);
      excess = λ v. omega (arith, ints, from v, to v, ap (λ (z : ℤ). at (g.head a) z v) plus, at_neg (g.tail a) v m d minus);
      potential = same;
    }
