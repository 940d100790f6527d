-- What leaves a set of nodes is what its nodes send in all, and what follows for sets that a flow fills.
use Rattle.std.proofs.Common.{◌≡◌, ℕ, zero, suc, ◌<◌, Bool, true, false, cond, eqb, ◌⊎◌, ℤ, pos, negsuc, ◌+ℤ◌, ◌-ℤ◌, neg_ℤ, ◌≤ℤ◌, ◌<ℤ◌, sym, refl, ap, ◌∙◌, inl, inr, arith}
use borrow.Author.Differences.{up}
use Rattle.std.proofs.lemmas.Int.{ints}
use Rattle.std.proofs.lemmas.Bool.{cases_eq, true≢false}
use Rattle.sums.specs.Sum.{sum_ℤ, sum_to}
use Rattle.sums.proofs.Sum.{sum_ℤ_ext, sum_ℤ_le, sum_ℤ_add, sum_ℤ_neg, sum_ℤ_zero, sum_ℤ_sub, sum_ℤ_pos}
use Rattle.sums.proofs.Points.{sum_by, sum_paired, one_of_sum}
use Rattle.net_graph.specs.Graph.{Graph, IsNetwork, IsPseudoflow, outflow}
use Rattle.net_graph.proofs.Points.{head_pair}
use Rattle.net_theory.specs.Theorems.{Meets, IsInfeasibleCut, Joined, here, along, JoinedHasNoCut}

-- what leaves the set along arc a
abbrev leaves : Graph → (ℕ → Bool) → (ℕ → ℤ) → ℕ → ℤ
leaves g inside x a = cond (inside (g.tail a)) (cond (inside (g.head a)) (pos 0) (x a)) (pos 0)

-- what stays within it
abbrev stays : Graph → (ℕ → Bool) → (ℕ → ℤ) → ℕ → ℤ
stays g inside x a = cond (inside (g.tail a)) (cond (inside (g.head a)) (x a) (pos 0)) (pos 0)

split : (s t : Bool) (z : ℤ) → cond s z (pos 0) ≡ (cond s (cond t (pos 0) z) (pos 0) +ℤ cond s (cond t z (pos 0)) (pos 0))
split true true z = omega (arith, ints)
split true false z = omega (arith, ints)
split false t z = refl

turned : (s t : Bool) (z : ℤ) → cond t (cond s (neg_ℤ z) (pos 0)) (pos 0) ≡ neg_ℤ (cond s (cond t z (pos 0)) (pos 0))
turned true true z = refl
turned true false z = refl
turned false true z = refl
turned false false z = refl

move : (s t : Bool) (z : ℤ) → cond s (cond t z (pos 0)) (pos 0) ≡ cond t (cond s z (pos 0)) (pos 0)
move true true z = refl
move true false z = refl
move false true z = refl
move false false z = refl

inner : (g : Graph) (s : Bool) (x : ℕ → ℤ) (v : ℕ) → cond s (sum_ℤ g.arcs (λ a. cond (eqb (g.tail a) v) (x a) (pos 0))) (pos 0) ≡ sum_ℤ g.arcs (λ a. cond (eqb (g.tail a) v) (cond s (x a) (pos 0)) (pos 0))
inner g true x v = refl
inner g false x v = sym (sum_ℤ_zero g.arcs (λ a. cond (eqb (g.tail a) v) (pos 0) (pos 0)) (λ a h. same (eqb (g.tail a) v)))
  where
    same : (b : Bool) → cond b (pos 0) (pos 0) ≡ pos 0
    same true = refl
    same false = refl

module _ (g : Graph) (w : IsNetwork g) (inside : ℕ → Bool) (x : ℕ → ℤ) (opposite : (a : ℕ) → a < g.arcs → x (g.pair a) ≡ neg_ℤ (x a)) where
  stay_none : sum_ℤ g.arcs (stays g inside x) ≡ pos 0
  stay_none =
      omega (arith, ints, sum_paired g.arcs g.pair (stays g inside x) (λ a h. (w.arc a h).pair) (λ a h. (w.arc a h).back), sum_ℤ_ext g.arcs (λ a. stays g inside x (g.pair a)) (λ a. neg_ℤ (stays g inside x a)) each, sum_ℤ_neg g.arcs (stays g inside x))
    where
      each : (a : ℕ) → a < g.arcs → stays g inside x (g.pair a) ≡ neg_ℤ (stays g inside x a)
      each a h = rw ((w.arc a h).turned, head_pair g a w h, opposite a h) (turned (inside (g.tail a)) (inside (g.head a)) (x a))

  -- what the nodes of a set send in all is what leaves the set
  pub crossing : sum_ℤ g.nodes (λ v. cond (inside v) (outflow g x v) (pos 0)) ≡ sum_ℤ g.arcs (leaves g inside x)
  unfolding outflow
  crossing =
      sum_ℤ_ext g.nodes (λ v. cond (inside v) (sum_ℤ g.arcs (λ a. cond (eqb (g.tail a) v) (x a) (pos 0))) (pos 0)) (λ v. sum_ℤ g.arcs (λ a. cond (eqb (g.tail a) v) (cond (inside v) (x a) (pos 0)) (pos 0))) (λ v h. inner g (inside v) x v)
      ∙ (sum_by g.arcs g.nodes g.tail (λ a v. cond (inside v) (x a) (pos 0)) (λ a h. (w.arc a h).tail) ∙ parted)
    where
      parted : sum_ℤ g.arcs (λ a. cond (inside (g.tail a)) (x a) (pos 0)) ≡ sum_ℤ g.arcs (leaves g inside x)
      parted = omega (arith, ints, sum_ℤ_ext g.arcs (λ a. cond (inside (g.tail a)) (x a) (pos 0)) (λ a. leaves g inside x a +ℤ stays g inside x a) (λ a h. split (inside (g.tail a)) (inside (g.head a)) (x a)), sum_ℤ_add g.arcs (leaves g inside x) (stays g inside x), stay_none)

-- a term of a set's sum
pick_le : (b : Bool) (y z : ℤ) → (b ≡ true → y ≤ℤ z) → cond b y (pos 0) ≤ℤ cond b z (pos 0)
pick_le true y z h = h refl
pick_le false y z h = omega (arith, ints)

pick_is : (b : Bool) (y z : ℤ) → (b ≡ true → y ≡ z) → cond b y (pos 0) ≡ cond b z (pos 0)
pick_is true y z h = h refl
pick_is false y z h = refl

pick_sub : (b : Bool) (y z : ℤ) → cond b (y -ℤ z) (pos 0) ≡ (cond b y (pos 0) -ℤ cond b z (pos 0))
pick_sub true y z = refl
pick_sub false y z = refl

pick_yes : (b : Bool) (y : ℤ) → b ≡ true → cond b y (pos 0) ≡ y
pick_yes true y e = refl
pick_yes false y e = absurd (true≢false (sym e))

module _ (g : Graph) (w : IsNetwork g) (e x : ℕ → ℤ) (f : IsPseudoflow g x) (inside : ℕ → Bool) (full : IsInfeasibleCut g e x inside) where
  -- the supplies of the set are more than what its nodes send
  over : sum_ℤ g.nodes (λ v. cond (inside v) (outflow g x v) (pos 0)) <ℤ sum_ℤ g.nodes (λ v. cond (inside v) (e v) (pos 0))
  over =
      omega (
        arith,
        ints,
        one_of_sum g.nodes (λ v. cond (inside v) (e v -ℤ outflow g x v) (pos 0)) each full.some.0 full.some.1,
        pick_yes (inside full.some.0) (e full.some.0 -ℤ outflow g x full.some.0) full.some.2,
        full.some.3,
        sum_ℤ_ext g.nodes (λ v. cond (inside v) (e v -ℤ outflow g x v) (pos 0)) (λ v. cond (inside v) (e v) (pos 0) -ℤ cond (inside v) (outflow g x v) (pos 0)) (λ v h. pick_sub (inside v) (e v) (outflow g x v)),
        sum_ℤ_sub g.nodes (λ v. cond (inside v) (e v) (pos 0)) (λ v. cond (inside v) (outflow g x v) (pos 0)),
      )
    where
      zero_pick : (b : Bool) → cond b (pos 0) (pos 0) ≡ pos 0
      zero_pick true = refl
      zero_pick false = refl

      each : (v : ℕ) → v < g.nodes → pos 0 ≤ℤ cond (inside v) (e v -ℤ outflow g x v) (pos 0)
      each v h = omega (arith, ints, zero_pick (inside v), pick_le (inside v) (pos 0) (e v -ℤ outflow g x v) (λ b. omega (arith, ints, full.no_deficit v h b)))

  pub full_infeasible : (y : ℕ → ℤ) → IsPseudoflow g y → Meets g y e → ⊥
  full_infeasible y k m =
      omega (
        arith,
        ints,
        over,
        crossing g w inside x f.opposite,
        crossing g w inside y k.opposite,
        sum_ℤ_ext g.nodes (λ v. cond (inside v) (outflow g y v) (pos 0)) (λ v. cond (inside v) (e v) (pos 0)) (λ v h. pick_is (inside v) (outflow g y v) (e v) (λ b. m v h)),
        sum_ℤ_le g.arcs (leaves g inside y) (leaves g inside x) each,
      )
    where
      by : (s t : Bool) (a : ℕ) → a < g.arcs → inside (g.tail a) ≡ s → inside (g.head a) ≡ t → cond s (cond t (pos 0) (y a)) (pos 0) ≤ℤ cond s (cond t (pos 0) (x a)) (pos 0)
      by true true a h p q = omega (arith, ints)
      by true false a h p q = omega (arith, ints, full.closed a h p q, k.within a h)
      by false t a h p q = omega (arith, ints)

      each : (a : ℕ) → a < g.arcs → leaves g inside y a ≤ℤ leaves g inside x a
      each a h = by (inside (g.tail a)) (inside (g.head a)) a h refl refl

  -- an arc that leaves the set takes less than the supplies of the set
  less_than : (a : ℕ) → a < g.arcs → inside (g.tail a) ≡ true → inside (g.head a) ≡ false → g.limit a <ℤ sum_ℤ g.nodes (λ v. cond (inside v) (e v) (pos 0))
  less_than a h p q =
      omega (arith, ints, over, crossing g w inside x f.opposite, one_of_sum g.arcs (leaves g inside x) each a h, full.closed a h p q, this (inside (g.tail a)) (inside (g.head a)) p q)
    where
      this : (s t : Bool) → s ≡ true → t ≡ false → cond s (cond t (pos 0) (x a)) (pos 0) ≡ x a
      this true false i j = refl
      this true true i j = absurd (true≢false j)
      this false t i j = absurd (true≢false (sym i))

      by : (s t : Bool) (b : ℕ) → b < g.arcs → inside (g.tail b) ≡ s → inside (g.head b) ≡ t → pos 0 ≤ℤ cond s (cond t (pos 0) (x b)) (pos 0)
      by true true b l i j = omega (arith, ints)
      by true false b l i j = omega (arith, ints, full.closed b l i j, (w.arc b l).allowed)
      by false t b l i j = omega (arith, ints)

      each : (b : ℕ) → b < g.arcs → pos 0 ≤ℤ leaves g inside x b
      each b l = by (inside (g.tail b)) (inside (g.head b)) b l refl refl

-- on a path out of a set some arc leaves it
way_out : (g : Graph) (least : ℤ) (inside : ℕ → Bool) (u v : ℕ) → Joined g least u v → inside u ≡ true → inside v ≡ false → (a : ℕ) × (a < g.arcs) × (inside (g.tail a) ≡ true) × (inside (g.head a) ≡ false) × (least ≤ℤ g.limit a)
way_out g least inside u v here p q = absurd (true≢false (sym p ∙ q))
way_out g least inside u v (along a h l j) p q = by (inside (g.head a)) refl (λ r. way_out g least inside (g.head a) v j r q)
  where
    by : (b : Bool) → inside (g.head a) ≡ b → (inside (g.head a) ≡ true → (c : ℕ) × (c < g.arcs) × (inside (g.tail c) ≡ true) × (inside (g.head c) ≡ false) × (least ≤ℤ g.limit c)) → (c : ℕ) × (c < g.arcs) × (inside (g.tail c) ≡ true) × (inside (g.head c) ≡ false) × (least ≤ℤ g.limit c)
    by true e r = r e
    by false e r = (a, h, p, e, l)

-- all are in the set, or one is not
all_or : (n : ℕ) (inside : ℕ → Bool) → ((v : ℕ) → v < n → inside v ≡ true) ⊎ ((v : ℕ) × (v < n) × (inside v ≡ false))
all_or zero inside = inl (λ v h. absurd (omega arith))
all_or (suc n) inside = by (inside n) refl (all_or n inside)
  where
    by : (b : Bool) → inside n ≡ b → ((v : ℕ) → v < n → inside v ≡ true) ⊎ ((v : ℕ) × (v < n) × (inside v ≡ false)) → ((v : ℕ) → v < suc n → inside v ≡ true) ⊎ ((v : ℕ) × (v < suc n) × (inside v ≡ false))
    by false e r = inr (n, omega arith, e)
    by true e (inl all) = inl (λ v h. elim (cases_eq v n) [ inl q ↦ ap inside q ∙ e | inr m ↦ all v (omega (arith, h, m)) ])
    by true e (inr o) = inr (o.0, omega (arith, o.1), o.2)

below_up : (z : ℤ) → (z ≤ℤ pos (up z)) × (pos 0 ≤ℤ pos (up z))
below_up (pos n) = (omega (arith, ints), omega (arith, ints))
below_up (negsuc n) = (omega (arith, ints), omega (arith, ints))

pub joined_never_full : JoinedHasNoCut
joined_never_full g w e x f even joined inside full = elim (all_or g.nodes inside) [
  | inl all ↦ omega (arith, ints, over g w e x f inside full, crossing g w inside x f.opposite, sum_ℤ_zero g.arcs (leaves g inside x) (none all), sum_ℤ_ext g.nodes (λ v. cond (inside v) (e v) (pos 0)) e (λ v h. pick_yes (inside v) (e v) (all v h)), even)
  | inr o ↦ out o (way_out g total inside full.some.0 o.0 (joined full.some.0 o.0 full.some.1 o.1) full.some.2 o.2)
]
  where
    total : ℤ
    total = pos (sum_to g.nodes (λ w. up (e w)))

    inner_arc : (s t : Bool) (z : ℤ) → t ≡ true → cond s (cond t (pos 0) z) (pos 0) ≡ pos 0
    inner_arc true true z i = refl
    inner_arc false true z i = refl
    inner_arc s false z i = absurd (true≢false (sym i))

    none : ((v : ℕ) → v < g.nodes → inside v ≡ true) → (a : ℕ) → a < g.arcs → leaves g inside x a ≡ pos 0
    none all a h = inner_arc (inside (g.tail a)) (inside (g.head a)) (x a) (all (g.head a) (w.arc a h).head)

    part : (b : Bool) (z : ℤ) → cond b z (pos 0) ≤ℤ pos (up z)
    part true z = (below_up z).0
    part false z = (below_up z).1

    out : ((v : ℕ) × (v < g.nodes) × (inside v ≡ false)) → ((a : ℕ) × (a < g.arcs) × (inside (g.tail a) ≡ true) × (inside (g.head a) ≡ false) × (total ≤ℤ g.limit a)) → ⊥
    out o q = omega (arith, ints, less_than g w e x f inside full q.0 q.1 q.2 q.3, q.4, sum_ℤ_le g.nodes (λ v. cond (inside v) (e v) (pos 0)) (λ v. pos (up (e v))) (λ v h. part (inside v) (e v)), sum_ℤ_pos g.nodes (λ v. up (e v)))
