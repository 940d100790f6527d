-- Every field has turns that cost least: where raising no set of places by one is cheaper, nothing is, and sets can be tried.
use Rattle.std.proofs.Common.{◌≡◌, ℕ, zero, suc, pred, ◌+◌, ◌*◌, ◌<◌, ◌≤◌, min, Bool, true, false, ℤ, pos, ◌+ℤ◌, ◌-ℤ◌, nat_abs, sym, refl, ap, ◌∙◌, le_trans, le_refl, mul-le-mul_left, mul-add, arith}
use native.Mathlib.Decide.{ℕ_discrete, dec_lt}
use Rattle.std.proofs.lemmas.Int.{ints}
use Rattle.sums.specs.Sum.{sum_to}
use Rattle.sums.proofs.Sum.{if_so}
use Rattle.sums.proofs.Table.{member_le_table}
use Rattle.phase_cost.specs.Steps.{Steps, Heights, more_right, more_below, heights_cost, turn_steps}
use Rattle.phase_cost.specs.Theorems.{HasLeast, StepsHaveLeast}
use Rattle.phase_cost.proofs.Cost.{all_steps_le, all_steps_add, heights_cost_ext, heights_cost_shift, least_from_turns}

-- ---- what can be tried out has a best one

abbrev Best : Type 0 → Type 0
Best A = (P : A → ℕ) → (a : A) × ((b : A) → P a ≤ P b)

best_bool : Best Bool
best_bool P = by (dec_lt (P true) (P false))
  where
    by : Dec (P true < P false) → (a : Bool) × ((b : Bool) → P a ≤ P b)
    by (yes l) = (true, elim [ true ↦ omega arith | false ↦ omega arith ])
    by (no l) = (false, elim [ true ↦ omega arith | false ↦ omega arith ])

-- n of them
abbrev Row : Type 0 → ℕ → Type 0
Row A zero = Unit {0}
Row A (suc n) = Row A n × A

best_row : {A : Type 0} → Best A → (n : ℕ) → Best (Row A n)
best_row b zero P = (tt, λ r. le_refl (P tt))
best_row {A} b (suc n) P =
    let rest : (a : A) → (r : Row A n) × ((q : Row A n) → P (r, a) ≤ P (q, a)) = λ a. best_row b n (λ r. P (r, a)) in
    let last : (a : A) × ((c : A) → P ((rest a).0, a) ≤ P ((rest c).0, c)) = b (λ a. P ((rest a).0, a)) in
    (((rest last.0).0, last.0), λ r. le_trans (last.1 r.1) ((rest r.1).1 r.0))

-- the member at an index, and a row from its members
at : {A : Type 0} (n : ℕ) → A → Row A n → ℕ → A
at zero d r i = d
at (suc n) d r i = if_so (ℕ_discrete i n) r.1 (at n d r.0 i)

row_of : {A : Type 0} (n : ℕ) → (ℕ → A) → Row A n
row_of zero g = tt
row_of (suc n) g = (row_of n g, g n)

at_row_of : {A : Type 0} (n : ℕ) (d : A) (g : ℕ → A) (i : ℕ) → i < n → at n d (row_of n g) i ≡ g i
unfolding at row_of if_so
at_row_of zero d g i l = absurd (omega arith)
at_row_of (suc n) d g i l = by (ℕ_discrete i n) (λ k. at_row_of n d g i k)
  where
    by : (e : Dec (i ≡ n)) → (i < n → at n d (row_of n g) i ≡ g i) → if_so e (g n) (at n d (row_of n g) i) ≡ g i
    by (yes e) f = ap g (sym e)
    by (no e) f = f (omega arith)

-- ---- heights raised by a whole number at each place

raise : Heights → (ℕ → ℕ → ℕ) → Heights
raise h d x y = h x y +ℤ pos (d x y)

-- a step, raised by b and c at its ends, in two parts: one where there is any, and the rest
convex : (u v m : ℤ) (b c : ℕ) →
    nat_abs (((u +ℤ pos (pred b)) -ℤ (v +ℤ pos (pred c))) -ℤ m) + nat_abs (((u +ℤ pos (min b 1)) -ℤ (v +ℤ pos (min c 1))) -ℤ m) ≤
    nat_abs (((u +ℤ pos b) -ℤ (v +ℤ pos c)) -ℤ m) + nat_abs ((u -ℤ v) -ℤ m)
convex u v m b c =
    plain ((u -ℤ v) -ℤ m) _ _ _ b c (parts u v m (pos (pred b)) (pos (pred c))) (parts u v m (pos (min b 1)) (pos (min c 1))) (parts u v m (pos b) (pos c))
  where
    parts : (u v m b c : ℤ) → ((u +ℤ b) -ℤ (v +ℤ c)) -ℤ m ≡ ((u -ℤ v) -ℤ m) +ℤ (b -ℤ c)
    parts u v m b c = omega (arith, ints)

    plain : (a k l m : ℤ) (b c : ℕ) → k ≡ a +ℤ (pos (pred b) -ℤ pos (pred c)) → l ≡ a +ℤ (pos (min b 1) -ℤ pos (min c 1)) → m ≡ a +ℤ (pos b -ℤ pos c) →
        nat_abs k + nat_abs l ≤ nat_abs m + nat_abs a
    plain a k l m zero zero p q r = omega (arith, ints)
    plain a k l m zero (suc c) p q r = omega (arith, ints)
    plain a k l m (suc b) zero p q r = omega (arith, ints)
    plain a k l m (suc b) (suc c) p q r = omega (arith, ints)

priced_convex : (p a b c d : ℕ) → a + b ≤ c + d → p * a + p * b ≤ p * c + p * d
priced_convex p a b c d l = simp mul-add at (mul-le-mul_left p l)

-- to raise in two parts, from the same heights, is no dearer in all
in_parts : (s : Steps) (h : Heights) (d : ℕ → ℕ → ℕ) →
    heights_cost s (raise h (λ x y. pred (d x y))) + heights_cost s (raise h (λ x y. min (d x y) 1)) ≤ heights_cost s (raise h d) + heights_cost s h
unfolding heights_cost more_right more_below raise
in_parts s h d =
    let a : (ℕ → ℕ → ℕ) → ℕ → ℕ → ℕ = λ d x y. s.right x y * nat_abs (((h (suc x) y +ℤ pos (d (suc x) y)) -ℤ (h x y +ℤ pos (d x y))) -ℤ s.to_right x y) in
    let b : (ℕ → ℕ → ℕ) → ℕ → ℕ → ℕ = λ d x y. s.below x y * nat_abs (((h x (suc y) +ℤ pos (d x (suc y))) -ℤ (h x y +ℤ pos (d x y))) -ℤ s.to_below x y) in
    let a0 : ℕ → ℕ → ℕ = λ x y. s.right x y * nat_abs ((h (suc x) y -ℤ h x y) -ℤ s.to_right x y) in
    let b0 : ℕ → ℕ → ℕ = λ x y. s.below x y * nat_abs ((h x (suc y) -ℤ h x y) -ℤ s.to_below x y) in
    let less : ℕ → ℕ → ℕ = λ x y. pred (d x y) in
    let one : ℕ → ℕ → ℕ = λ x y. min (d x y) 1 in
    let l = all_steps_le s.wide s.high (λ x y. a less x y + a one x y) (λ x y. b less x y + b one x y) (λ x y. a d x y + a0 x y) (λ x y. b d x y + b0 x y)
    (λ x y k m. priced_convex (s.right x y) _ _ _ _ (convex (h (suc x) y) (h x y) (s.to_right x y) (d (suc x) y) (d x y)))
    (λ x y k m. priced_convex (s.below x y) _ _ _ _ (convex (h x (suc y)) (h x y) (s.to_below x y) (d x (suc y)) (d x y))) in
    omega (arith, l, all_steps_add s.wide s.high (a less) (b less) (a one) (b one), all_steps_add s.wide s.high (a d) (b d) a0 b0)

-- raising no set of places by one is cheaper
Settled : Steps → Heights → Type 0
Settled s h = (d : ℕ → ℕ → ℕ) → ((x y : ℕ) → d x y ≤ 1) → heights_cost s h ≤ heights_cost s (raise h d)

settled_raise : (s : Steps) (h : Heights) → Settled s h → (n : ℕ) (d : ℕ → ℕ → ℕ) → ((x y : ℕ) → x < s.wide → y < s.high → d x y ≤ n) →
    heights_cost s h ≤ heights_cost s (raise h d)
unfolding Settled raise
settled_raise s h no_set zero d l =
    omega (arith, heights_cost_ext s h (λ x y. h x y +ℤ pos (d x y)) (λ x y a b. omega (arith, ints, l x y a b)))
settled_raise s h no_set (suc n) d l =
    omega (arith, in_parts s h d, settled_raise s h no_set n (λ x y. pred (d x y)) (λ x y a b. omega (arith, l x y a b)), no_set (λ x y. min (d x y) 1) (λ x y. omega arith))

settled_least : (s : Steps) (h : Heights) → Settled s h → (g : Heights) → heights_cost s h ≤ heights_cost s g
unfolding raise
settled_least s h no_set g =
    let far = sum_to s.high (λ y. sum_to s.wide (λ x. nat_abs (g x y -ℤ h x y))) in
    let d : ℕ → ℕ → ℕ = λ x y. nat_abs ((g x y -ℤ h x y) +ℤ pos far) in
    let l : (x y : ℕ) → x < s.wide → y < s.high → nat_abs (g x y -ℤ h x y) ≤ far = λ x y a b. member_le_table s.wide s.high x y (λ i j. nat_abs (g i j -ℤ h i j)) a b in
    omega (
      arith,
      settled_raise s h no_set (far + far) d (λ x y a b. near_by_far (g x y) (h x y) far (l x y a b)),
      heights_cost_ext s (λ x y. h x y +ℤ pos (d x y)) (λ x y. g x y +ℤ pos far) (λ x y a b. up_by_far (g x y) (h x y) far (l x y a b)),
      heights_cost_shift s g (pos far),
    )
  where
    near_by_far : (a b : ℤ) (n : ℕ) → nat_abs (a -ℤ b) ≤ n → nat_abs ((a -ℤ b) +ℤ pos n) ≤ n + n
    near_by_far a b n k = omega (arith, ints)

    up_by_far : (a b : ℤ) (n : ℕ) → nat_abs (a -ℤ b) ≤ n → b +ℤ pos (nat_abs ((a -ℤ b) +ℤ pos n)) ≡ a +ℤ pos n
    up_by_far a b n k = omega (arith, ints)

-- ---- sets are tried, and the cost falls until none is cheaper

bit : Bool → ℕ
bit true = 1
bit false = 0

is_some : ℕ → Bool
is_some zero = false
is_some (suc n) = true

bit_is : (n : ℕ) → n ≤ 1 → bit (is_some n) ≡ n
unfolding bit is_some
bit_is zero l = refl
bit_is (suc n) l = omega arith

SetOfPlaces : Steps → Type 0
SetOfPlaces s = Row (Row Bool s.wide) s.high

places : (s : Steps) → SetOfPlaces s → ℕ → ℕ → ℕ
unfolding SetOfPlaces
places s p x y = bit (at s.wide false (at s.high (row_of s.wide (λ i. false)) p y) x)

places_of : (s : Steps) → (ℕ → ℕ → ℕ) → SetOfPlaces s
unfolding SetOfPlaces
places_of s d = row_of s.high (λ y. row_of s.wide (λ x. is_some (d x y)))

places_are : (s : Steps) (d : ℕ → ℕ → ℕ) → ((x y : ℕ) → d x y ≤ 1) → (x y : ℕ) → x < s.wide → y < s.high → places s (places_of s d) x y ≡ d x y
unfolding SetOfPlaces places places_of
places_are s d l x y a b =
    ap (λ r. bit (at s.wide false r x)) (at_row_of s.high (row_of s.wide (λ i. false)) (λ j. row_of s.wide (λ i. is_some (d i j))) y b)
    ∙ ap bit (at_row_of s.wide false (λ i. is_some (d i y)) x a) ∙ bit_is (d x y) (l x y)

-- from any heights that cost at most n
descend : (n : ℕ) (s : Steps) (h : Heights) → heights_cost s h ≤ n → (h : Heights) × ((g : Heights) → heights_cost s h ≤ heights_cost s g)
unfolding Settled raise SetOfPlaces
descend zero s h l = (h, λ g. omega arith)
descend (suc n) s h l = by (dec_lt (heights_cost s (raise h (places s best.0))) (heights_cost s h)) (descend n s (raise h (places s best.0)))
  where
    best : (p : SetOfPlaces s) × ((q : SetOfPlaces s) → heights_cost s (raise h (places s p)) ≤ heights_cost s (raise h (places s q)))
    best = best_row (best_row best_bool s.wide) s.high (λ p. heights_cost s (raise h (places s p)))

    no_set : ¬ (heights_cost s (raise h (places s best.0)) < heights_cost s h) → Settled s h
    no_set k d m =
        omega (arith, best.1 (places_of s d), heights_cost_ext s (raise h (places s (places_of s d))) (raise h d) (λ x y a b. ap (λ (i : ℕ). h x y +ℤ pos i) (places_are s d m x y a b)))

    by : Dec (heights_cost s (raise h (places s best.0)) < heights_cost s h) →
        (heights_cost s (raise h (places s best.0)) ≤ n → (h : Heights) × ((g : Heights) → heights_cost s h ≤ heights_cost s g)) →
        (h : Heights) × ((g : Heights) → heights_cost s h ≤ heights_cost s g)
    by (yes k) more = more (omega arith)
    by (no k) more = (h, settled_least s h (no_set k))

pub steps_have_least : StepsHaveLeast
steps_have_least s = descend (heights_cost s (λ x y. pos 0)) s (λ x y. pos 0) (le_refl (heights_cost s (λ x y. pos 0)))

pub has_least : HasLeast
has_least f = let least = steps_have_least (turn_steps f) in (least.0, least_from_turns f least.0 least.1)
