-- From numbers to others level by level: the first step is the best one, as cost is convex, so where no level set is better one higher the others cost no less.
use Rattle.std.proofs.Common.{◌≡◌, ℕ, zero, suc, ◌+◌, ◌*◌, ◌<◌, ◌≤◌, true, false, cond, ◌⊎◌, ℤ, pos, negsuc, ◌+ℤ◌, ◌-ℤ◌, neg_ℤ, ◌≤ℤ◌, ◌<ℤ◌, sym, ap, ◌∙◌, inl, inr, mul-add, mul-le-mul_left, arith}
use lib.Signed.{le_z}
use borrow.Author.Differences.{up}
use Rattle.std.proofs.lemmas.Int.{ints}
use Rattle.std.proofs.lemmas.Bool.{cond-true, cond-false, cases_lt}
use Rattle.sums.proofs.Sum.{sum_le, sum_add}
use Rattle.net_graph.proofs.Points.{cases_lt_ℤ}
use Rattle.net_theory.proofs.Edge.{up_some}
use Rattle.net_links.specs.Links.{Links, Numbers, beyond, rise, links_cost, Between}
use Rattle.net_links.proofs.Cost.{rises_tell_cost}
use Rattle.net_links_levels.specs.Levels.{raised, level_set, SomeLevelSetIsBetter}

-- ---- one link

abbrev Onward : ℤ → ℤ → Type 0
Onward a b = (b ≡ pos 0) ⊎ (((b ≡ pos 1) × (pos 0 ≤ℤ a)) ⊎ ((b ≡ negsuc 0) × (a ≤ℤ pos 0)))

-- what lies above 0 grows no less the farther up it is
up_convex : (x a b : ℤ) → Onward a b → up (x +ℤ b) + up (x +ℤ a) ≤ up x + up ((x +ℤ a) +ℤ b)
up_convex x a b (inl e) = rw e (omega (arith, ints, ap up (none x), ap up (none (x +ℤ a))))
  where
    none : (z : ℤ) → (z +ℤ pos 0) ≡ z
    none z = omega (arith, ints)
up_convex x a b (inr (inl (e, h))) = rw e (grind (arith, ints))
up_convex x a b (inr (inr (e, h))) = rw e (grind (arith, ints))

-- a step by b from r + a is no better than from r, where b goes on as a has gone
one_link : (low high r a b : ℤ) → Onward a b → beyond low high (r +ℤ b) + beyond low high (r +ℤ a) ≤ beyond low high r + beyond low high ((r +ℤ a) +ℤ b)
one_link low high r a b h =
    omega (
      arith,
      up_convex (r -ℤ high) a b h,
      up_convex (low -ℤ r) (neg_ℤ a) (neg_ℤ b) (turned h),
      ap up (e1 (r) high b),
      ap up (e1 r high a),
      ap up (e2 r high a b),
      ap up (e3 low r b),
      ap up (e3 low r a),
      ap up (e4 low r a b),
    )
  where
    turned : Onward a b → Onward (neg_ℤ a) (neg_ℤ b)
    turned (inl e) = inl (omega (arith, ints))
    turned (inr (inl (e, h))) = inr (inr (omega (arith, ints), omega (arith, ints)))
    turned (inr (inr (e, h))) = inr (inl (omega (arith, ints), omega (arith, ints)))

    e1 : (r k b : ℤ) → ((r -ℤ k) +ℤ b) ≡ ((r +ℤ b) -ℤ k)
    e1 r k b = omega (arith, ints)

    e2 : (r k a b : ℤ) → (((r -ℤ k) +ℤ a) +ℤ b) ≡ (((r +ℤ a) +ℤ b) -ℤ k)
    e2 r k a b = omega (arith, ints)

    e3 : (k r b : ℤ) → ((k -ℤ r) +ℤ neg_ℤ b) ≡ (k -ℤ (r +ℤ b))
    e3 k r b = omega (arith, ints)

    e4 : (k r a b : ℤ) → (((k -ℤ r) +ℤ neg_ℤ a) +ℤ neg_ℤ b) ≡ (k -ℤ ((r +ℤ a) +ℤ b))
    e4 k r a b = omega (arith, ints)

-- ---- one node: z, but c at most

abbrev capped : ℤ → ℤ → ℤ
capped c z = cond (le_z c z) c z

abbrev bit : ℤ → ℤ → ℤ
bit c z = cond (le_z c z) (pos 1) (pos 0)

-- below the level nothing changes, and from it on both go up by one
record Node (c z : ℤ) : Type 0 where
  from : (z ≤ℤ c) ⊎ ((c +ℤ pos 1) ≤ℤ z)
  same : z ≤ℤ c → (capped c z ≡ z) × ((capped (c +ℤ pos 1) z ≡ z) × (bit (c +ℤ pos 1) z ≡ pos 0))
  next : (c +ℤ pos 1) ≤ℤ z → (capped c z ≡ c) × ((capped (c +ℤ pos 1) z ≡ (c +ℤ pos 1)) × (bit (c +ℤ pos 1) z ≡ pos 1))

le_yes : (a b : ℤ) → a ≤ℤ b → le_z a b ≡ true
le_yes a b h = grind (arith, ints)

le_no : (a b : ℤ) → b <ℤ a → le_z a b ≡ false
le_no a b h = grind (arith, ints)

capped_yes : (c z : ℤ) → c ≤ℤ z → capped c z ≡ c
capped_yes c z h = cond-true (le_z c z) c z (le_yes c z h)

capped_no : (c z : ℤ) → z ≤ℤ c → capped c z ≡ z
capped_no c z h = elim (cases_lt_ℤ z c) [
  | inl l ↦ cond-false (le_z c z) c z (le_no c z l)
  | inr l ↦ omega (arith, ints, capped_yes c z l)
]

bit_yes : (c z : ℤ) → c ≤ℤ z → bit c z ≡ pos 1
bit_yes c z h = cond-true (le_z c z) (pos 1) (pos 0) (le_yes c z h)

bit_no : (c z : ℤ) → z <ℤ c → bit c z ≡ pos 0
bit_no c z h = cond-false (le_z c z) (pos 1) (pos 0) (le_no c z h)

node : (c z : ℤ) → Node c z
node c z =
    record {
      from = elim (cases_lt_ℤ c z) [ inl l ↦ inr (omega (arith, ints)) | inr l ↦ inl l ];
      same = λ h. (capped_no c z h, (capped_no (c +ℤ pos 1) z (omega (arith, ints)), bit_no (c +ℤ pos 1) z (omega (arith, ints))));
      next = λ h. (capped_yes c z (omega (arith, ints)), (capped_yes (c +ℤ pos 1) z h, bit_yes (c +ℤ pos 1) z h));
    }

-- two nodes, of which z and y are the distances: how the difference of capped distances goes on
record Two (c z y : ℤ) : Type 0 where
  onward : Onward (capped c z -ℤ capped c y) (bit (c +ℤ pos 1) z -ℤ bit (c +ℤ pos 1) y)
  sum : (capped (c +ℤ pos 1) z -ℤ capped (c +ℤ pos 1) y) ≡ ((capped c z -ℤ capped c y) +ℤ (bit (c +ℤ pos 1) z -ℤ bit (c +ℤ pos 1) y))

two : (c z y : ℤ) → Two c z y
two c z y = by (node c z).from (node c y).from
  where
    Z : Node c z
    Z = node c z

    Y : Node c y
    Y = node c y

    by : (z ≤ℤ c) ⊎ ((c +ℤ pos 1) ≤ℤ z) → (y ≤ℤ c) ⊎ ((c +ℤ pos 1) ≤ℤ y) → Two c z y
    by (inl h) (inl k) = record { onward = inl (omega (arith, ints, (Z.same h).1.1, (Y.same k).1.1)); sum = omega (arith, ints, (Z.same h).0, (Z.same h).1.0, (Z.same h).1.1, (Y.same k).0, (Y.same k).1.0, (Y.same k).1.1) }
    by (inr h) (inr k) = record { onward = inl (omega (arith, ints, (Z.next h).1.1, (Y.next k).1.1)); sum = omega (arith, ints, (Z.next h).0, (Z.next h).1.0, (Z.next h).1.1, (Y.next k).0, (Y.next k).1.0, (Y.next k).1.1) }
    by (inr h) (inl k) = record { onward = inr (inl (omega (arith, ints, (Z.next h).1.1, (Y.same k).1.1), omega (arith, ints, (Z.next h).0, (Y.same k).0))); sum = omega (arith, ints, (Z.next h).0, (Z.next h).1.0, (Z.next h).1.1, (Y.same k).0, (Y.same k).1.0, (Y.same k).1.1) }
    by (inl h) (inr k) = record { onward = inr (inr (omega (arith, ints, (Z.same h).1.1, (Y.next k).1.1), omega (arith, ints, (Z.same h).0, (Y.next k).0))); sum = omega (arith, ints, (Z.same h).0, (Z.same h).1.0, (Z.same h).1.1, (Y.next k).0, (Y.next k).1.0, (Y.next k).1.1) }

-- ---- all links

module _ (l : Links) (t b : Numbers) where
  abbrev d : ℕ → ℤ
  d v = b v -ℤ t v

  -- as far towards the other numbers as c
  abbrev cut : ℤ → Numbers
  cut c v = t v +ℤ capped c (d v)

  abbrev up_from : ℤ → Numbers
  up_from c = raised (level_set c t b) t

  link_step : (c : ℤ) (i : ℕ) →
      beyond (l.low i) (l.high i) (rise l (up_from (c +ℤ pos 1)) i) + beyond (l.low i) (l.high i) (rise l (cut c) i) ≤
      beyond (l.low i) (l.high i) (rise l t i) + beyond (l.low i) (l.high i) (rise l (cut (c +ℤ pos 1)) i)
  link_step c i =
      let T = two c (d (l.to i)) (d (l.from i)) in
      let a = capped c (d (l.to i)) -ℤ capped c (d (l.from i)) in
      let e = bit (c +ℤ pos 1) (d (l.to i)) -ℤ bit (c +ℤ pos 1) (d (l.from i)) in
      omega (
        arith,
        one_link (l.low i) (l.high i) (rise l t i) a e T.onward,
        ap (λ (r : ℤ). beyond (l.low i) (l.high i) r) (parted (t (l.to i)) (t (l.from i)) (bit (c +ℤ pos 1) (d (l.to i))) (bit (c +ℤ pos 1) (d (l.from i)))),
        ap (λ (r : ℤ). beyond (l.low i) (l.high i) r) (parted (t (l.to i)) (t (l.from i)) (capped c (d (l.to i))) (capped c (d (l.from i)))),
        ap (λ (r : ℤ). beyond (l.low i) (l.high i) r) (parted_on (t (l.to i)) (t (l.from i)) (capped (c +ℤ pos 1) (d (l.to i))) (capped (c +ℤ pos 1) (d (l.from i))) a e T.sum),
      )
    where
      parted : (x y m n : ℤ) → ((x +ℤ m) -ℤ (y +ℤ n)) ≡ ((x -ℤ y) +ℤ (m -ℤ n))
      parted x y m n = omega (arith, ints)

      parted_on : (x y m n a e : ℤ) → (m -ℤ n) ≡ (a +ℤ e) → ((x +ℤ m) -ℤ (y +ℤ n)) ≡ (((x -ℤ y) +ℤ a) +ℤ e)
      parted_on x y m n a e h = omega (arith, ints)

  level_step : (c : ℤ) → links_cost l (up_from (c +ℤ pos 1)) + links_cost l (cut c) ≤ links_cost l t + links_cost l (cut (c +ℤ pos 1))
  unfolding links_cost
  level_step c =
      let f : Numbers → ℕ → ℕ = λ u i. l.price i * beyond (l.low i) (l.high i) (rise l u i) in
      omega (
        arith,
        sum_add l.count (f (up_from (c +ℤ pos 1))) (f (cut c)),
        sum_add l.count (f t) (f (cut (c +ℤ pos 1))),
        sum_le l.count (λ i. f (up_from (c +ℤ pos 1)) i + f (cut c) i) (λ i. f t i + f (cut (c +ℤ pos 1)) i) (λ i h. times (l.price i) _ _ _ _ (link_step c i)),
      )
    where
      times : (p a b c d : ℕ) → a + b ≤ c + d → p * a + p * b ≤ p * c + p * d
      times p a b c d h = omega (arith, mul-le-mul_left p h, mul-add p a b, mul-add p c d)

  module _ (n : ℕ) (fit : Between l n) (none : (w : ℕ) → w < n → links_cost l t ≤ links_cost l (up_from (d w))) where
    -- a distance of which all others that are at least c are no less, if there is one
    nearest : (c : ℤ) (k : ℕ) → k ≤ n → ((v : ℕ) → v < k → d v <ℤ c) ⊎ ((w : ℕ) × ((w < k) × ((c ≤ℤ d w) × ((v : ℕ) → v < k → c ≤ℤ d v → d w ≤ℤ d v))))
    nearest c zero h = inl (λ v k. absurd (omega arith))
    nearest c (suc k) h = elim (nearest c k (omega arith)) [
      | inl f ↦ elim (cases_lt_ℤ (d k) c) [
        | inl y ↦ inl (λ v g. elim (last v g) [ inl e ↦ rw e y | inr g ↦ f v g ])
        | inr y ↦ inr (k, (omega arith, (y, λ v g m. elim (last v g) [ inl e ↦ rw e (omega (arith, ints)) | inr g ↦ absurd (omega (arith, ints, f v g, m)) ])))
      ]
      | inr (w, (g, (m, f))) ↦ elim (cases_lt_ℤ (d k) (d w)) [
        | inl y ↦ elim (cases_lt_ℤ (d k) c) [
          | inl z ↦ inr (w, (omega arith, (m, λ v p q. elim (last v p) [ inl e ↦ absurd (under v e q z) | inr p ↦ f v p q ])))
          | inr z ↦ inr (k, (omega arith, (z, λ v p q. elim (last v p) [ inl e ↦ rw e (omega (arith, ints)) | inr p ↦ omega (arith, ints, f v p q, y) ])))
        ]
        | inr y ↦ inr (w, (omega arith, (m, λ v p q. elim (last v p) [ inl e ↦ rw e y | inr p ↦ f v p q ])))
      ]
    ]
      where
        last : (v : ℕ) → v < suc k → (v ≡ k) ⊎ (v < k)
        last v g = grind arith

        under : (v : ℕ) → v ≡ k → c ≤ℤ d v → d k <ℤ c → ⊥
        under v e q z = omega (arith, ints, ap d e)

    -- so no level is better
    no_level : (c : ℤ) → links_cost l t ≤ links_cost l (up_from c)
    no_level c = elim (nearest c n (omega arith)) [
      | inl f ↦ omega (arith, rises_tell_cost l (up_from c) t (λ i h. omega (arith, ints, bit_no c (d (l.to i)) (f (l.to i) (fit.to i h)), bit_no c (d (l.from i)) (f (l.from i) (fit.from i h)))))
      | inr (w, (g, (m, f))) ↦ omega (arith, none w g, rises_tell_cost l (up_from c) (up_from (d w)) (λ i h. omega (arith, ints, same w m f (l.to i) (fit.to i h), same w m f (l.from i) (fit.from i h))))
    ]
      where
        same : (w : ℕ) → c ≤ℤ d w → ((v : ℕ) → v < n → c ≤ℤ d v → d w ≤ℤ d v) → (v : ℕ) → v < n → bit c (d v) ≡ bit (d w) (d v)
        same w m f v h = elim (cases_lt_ℤ (d v) c) [
          | inl y ↦ bit_no c (d v) y ∙ sym (bit_no (d w) (d v) (omega (arith, ints, y, m)))
          | inr y ↦ bit_yes c (d v) y ∙ sym (bit_yes (d w) (d v) (f v h y))
        ]

    -- level by level
    climb : (lo : ℤ) → ((v : ℕ) → v < n → lo ≤ℤ d v) → (k : ℕ) → links_cost l t ≤ links_cost l (cut (lo +ℤ pos k))
    climb lo h zero = omega (arith, rises_tell_cost l (cut (lo +ℤ pos 0)) t (λ i g. omega (arith, ints, capped_yes (lo +ℤ pos 0) (d (l.to i)) (omega (arith, ints, h (l.to i) (fit.to i g))), capped_yes (lo +ℤ pos 0) (d (l.from i)) (omega (arith, ints, h (l.from i) (fit.from i g))))))
    climb lo h (suc k) = omega (arith, climb lo h k, level_step (lo +ℤ pos k), no_level ((lo +ℤ pos k) +ℤ pos 1), ap (λ (c : ℤ). links_cost l (cut c)) (next lo k))
      where
        next : (lo : ℤ) (k : ℕ) → ((lo +ℤ pos k) +ℤ pos 1) ≡ (lo +ℤ pos (suc k))
        next lo k = omega (arith, ints)

    -- some number lies below all distances, and some above
    below_all : (k : ℕ) → (lo : ℤ) × ((v : ℕ) → v < k → lo ≤ℤ d v)
    below_all zero = (pos 0, λ v h. absurd (omega arith))
    below_all (suc k) = by (below_all k).0 (below_all k).1
      where
        by : (lo : ℤ) → ((v : ℕ) → v < k → lo ≤ℤ d v) → (lo : ℤ) × ((v : ℕ) → v < suc k → lo ≤ℤ d v)
        by lo f = (capped lo (d k), λ v h. elim (last v h) [ inl e ↦ rw e (at_most lo (d k)).1 | inr g ↦ omega (arith, ints, f v g, (at_most lo (d k)).0) ])
          where
            last : (v : ℕ) → v < suc k → (v ≡ k) ⊎ (v < k)
            last v g = grind arith

            at_most : (c z : ℤ) → (capped c z ≤ℤ c) × (capped c z ≤ℤ z)
            at_most c z = elim (cases_lt_ℤ z c) [
              | inl y ↦ (omega (arith, ints, capped_no c z (omega (arith, ints))), omega (arith, ints, capped_no c z (omega (arith, ints))))
              | inr y ↦ (omega (arith, ints, capped_yes c z y), omega (arith, ints, capped_yes c z y))
            ]

    above_all : (k : ℕ) → (hi : ℤ) × ((v : ℕ) → v < k → d v ≤ℤ hi)
    above_all zero = (pos 0, λ v h. absurd (omega arith))
    above_all (suc k) = by (above_all k).0 (above_all k).1
      where
        by : (hi : ℤ) → ((v : ℕ) → v < k → d v ≤ℤ hi) → (hi : ℤ) × ((v : ℕ) → v < suc k → d v ≤ℤ hi)
        by hi f = elim (cases_lt_ℤ (d k) hi) [
          | inl y ↦ (hi, λ v h. elim (last v h) [ inl e ↦ rw e (omega (arith, ints)) | inr g ↦ f v g ])
          | inr y ↦ (d k, λ v h. elim (last v h) [ inl e ↦ rw e (omega (arith, ints)) | inr g ↦ omega (arith, ints, f v g, y) ])
        ]
          where
            last : (v : ℕ) → v < suc k → (v ≡ k) ⊎ (v < k)
            last v g = grind arith

    pub no_better : links_cost l t ≤ links_cost l b
    no_better = by (below_all n).0 (below_all n).1 (above_all n).0 (above_all n).1
      where
        by : (lo : ℤ) → ((v : ℕ) → v < n → lo ≤ℤ d v) → (hi : ℤ) → ((v : ℕ) → v < n → d v ≤ℤ hi) → links_cost l t ≤ links_cost l b
        by lo f hi g = omega (arith, climb lo f (up (hi -ℤ lo)), rises_tell_cost l (cut (lo +ℤ pos (up (hi -ℤ lo)))) b (λ i h. omega (arith, ints, there (l.to i) (fit.to i h), there (l.from i) (fit.from i h))))
          where
            there : (v : ℕ) → v < n → cut (lo +ℤ pos (up (hi -ℤ lo))) v ≡ b v
            there v h = omega (arith, ints, capped_no (lo +ℤ pos (up (hi -ℤ lo))) (d v) (far (f v h) (g v h)))
              where
                far : lo ≤ℤ d v → d v ≤ℤ hi → d v ≤ℤ (lo +ℤ pos (up (hi -ℤ lo)))
                far x y = omega (arith, ints, up_some (hi -ℤ lo) (omega (arith, ints)))

-- some node of the first k has what is looked for, or none has
search : (p : ℕ → ℕ) (c k : ℕ) → ((w : ℕ) × (w < k) × (p w < c)) ⊎ ((w : ℕ) → w < k → c ≤ p w)
search p c zero = inr (λ w h. absurd (omega arith))
search p c (suc k) = elim (search p c k) [
  | inl (w, h, m) ↦ inl (w, omega arith, m)
  | inr f ↦ elim (cases_lt (p k) c) [
    | inl m ↦ inl (k, omega arith, m)
    | inr m ↦ inr (λ w h. elim (last w h) [ inl e ↦ rw e m | inr g ↦ f w g ])
  ]
]
  where
    last : (w : ℕ) → w < suc k → (w ≡ k) ⊎ (w < k)
    last w h = grind arith

pub some_level_set_is_better : SomeLevelSetIsBetter
some_level_set_is_better l nodes t b fit less = elim (search (λ w. links_cost l (up_from l t b (b w -ℤ t w))) (links_cost l t) nodes) [
  | inl found ↦ found
  | inr none ↦ absurd (omega (arith, less, no_better l t b nodes fit none))
]
