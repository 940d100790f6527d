-- Heights from their steps: fields in which all comes back, and heights that are found again.
use Rattle.std.proofs.Common.{◌≡◌, ℕ, zero, suc, ◌*◌, ◌<◌, ◌≤◌, ℤ, pos, ◌+ℤ◌, ◌-ℤ◌, ◌*ℤ◌, nat_abs, sym, refl, ap, ◌∙◌, suc-mul, mul-zero, arith}
use Rattle.std.proofs.lemmas.Int.{ints}
use Rattle.sums.specs.Sum.{sum_ℤ}
use Rattle.sums.proofs.Ring.{mul_cancel_ℤ, sub_mul_ℤ, zero_mul_ℤ, nat_abs_zero}
use Rattle.phase_field.specs.Field.{Field, Turns, height, step_right, step_below, expected_right, expected_below, round}
use Rattle.phase_field.proofs.Near.{round_turns, step_right_is, step_below_is}
use Rattle.phase_cost.specs.Cost.{cost}
use Rattle.phase_cost.specs.Steps.{Steps, Heights, more_right, more_below, heights_cost, residue, steps_of, turn_steps, integral}
use Rattle.phase_cost.specs.Cost.{AllComeBack, AllPriced}
use Rattle.phase_cost.specs.Theorems.{CostsNothing, FoundAgain, ResidueTurns}
use Rattle.phase_cost.proofs.Cost.{all_steps_zero, all_steps_zero_each, cost_is, cost_turns}

-- ---- integration

pub integral_right : (dr db : ℕ → ℕ → ℤ) (x y : ℕ) → integral dr db (suc x) y -ℤ integral dr db x y ≡ dr x y
unfolding integral sum_ℤ
integral_right dr db x y = omega (arith, ints)

-- where all comes back round every square of a field so wide and high
pub integral_below : (w h : ℕ) (dr db : ℕ → ℕ → ℤ) →
    ((x y : ℕ) → suc x < w → suc y < h → dr x y +ℤ db (suc x) y ≡ db x y +ℤ dr x (suc y)) →
    (x y : ℕ) → x < w → suc y < h → integral dr db x (suc y) -ℤ integral dr db x y ≡ db x y
unfolding integral sum_ℤ
integral_below w h dr db e zero y k l = omega (arith, ints)
integral_below w h dr db e (suc x) y k l =
    omega (arith, ints, integral_below w h dr db e x y (omega arith) l, e x y k l)

pub integral_first : (dr db : ℕ → ℕ → ℤ) → integral dr db 0 0 ≡ pos 0
unfolding integral sum_ℤ
integral_first dr db = refl

-- ---- heights that cost nothing

-- a step that costs nothing at a price is as expected
free : (p : ℕ) (k : ℤ) → 1 ≤ p → p * nat_abs k ≡ 0 → k ≡ pos 0
free zero k l e = absurd (omega arith)
free (suc p) k l e = nat_abs_zero k (omega (arith, suc-mul p (nat_abs k)))

pub nothing_more : (s : Steps) (h : Heights) → ((x y : ℕ) → suc x < s.wide → y < s.high → more_right s h x y ≡ pos 0) →
    ((x y : ℕ) → x < s.wide → suc y < s.high → more_below s h x y ≡ pos 0) → heights_cost s h ≡ 0
unfolding heights_cost
nothing_more s h p q =
    all_steps_zero s.wide s.high _ _ (λ x y k l. ap (λ (z : ℤ). s.right x y * nat_abs z) (p x y k l) ∙ mul-zero (s.right x y))
    (λ x y k l. ap (λ (z : ℤ). s.below x y * nat_abs z) (q x y k l) ∙ mul-zero (s.below x y))

pub more_nothing : (s : Steps) (h : Heights) → ((x y : ℕ) → suc x < s.wide → y < s.high → 1 ≤ s.right x y) →
    ((x y : ℕ) → x < s.wide → suc y < s.high → 1 ≤ s.below x y) → heights_cost s h ≡ 0 →
    ((x y : ℕ) → suc x < s.wide → y < s.high → more_right s h x y ≡ pos 0) × ((x y : ℕ) → x < s.wide → suc y < s.high → more_below s h x y ≡ pos 0)
unfolding heights_cost
more_nothing s h p q e =
    let z = all_steps_zero_each s.wide s.high _ _ e in
    (λ x y k l. free (s.right x y) (more_right s h x y) (p x y k l) (z.0 x y k l), λ x y k l. free (s.below x y) (more_below s h x y) (q x y k l) (z.1 x y k l))

-- round a square what steps are more than expected adds up to its residue, taken away
pub more_round : (s : Steps) (h : Heights) (x y : ℕ) →
    (more_right s h x y +ℤ more_below s h (suc x) y) -ℤ (more_below s h x y +ℤ more_right s h x (suc y)) ≡ pos 0 -ℤ residue s x y
unfolding more_right more_below residue
more_round s h x y =
    against (h (suc x) (suc y) -ℤ h x y) (s.to_right x y +ℤ s.to_below (suc x) y) (s.to_below x y +ℤ s.to_right x (suc y)) _ _
    (two (h x y) (h (suc x) y) (h (suc x) (suc y)) (s.to_right x y) (s.to_below (suc x) y))
    (two (h x y) (h x (suc y)) (h (suc x) (suc y)) (s.to_below x y) (s.to_right x (suc y)))
  where
    two : (a b c d e : ℤ) → ((b -ℤ a) -ℤ d) +ℤ ((c -ℤ b) -ℤ e) ≡ (c -ℤ a) -ℤ (d +ℤ e)
    two a b c d e = omega (arith, ints)

    against : (d e g k m : ℤ) → k ≡ d -ℤ e → m ≡ d -ℤ g → k -ℤ m ≡ pos 0 -ℤ (e -ℤ g)
    against d e g k m p q = omega (arith, ints)

pub integral_costs_nothing : (s : Steps) → ((x y : ℕ) → suc x < s.wide → suc y < s.high → residue s x y ≡ pos 0) →
    heights_cost s (integral s.to_right s.to_below) ≡ 0
unfolding more_right more_below residue
integral_costs_nothing s e =
    let r = s.to_right in
    let b = s.to_below in
    nothing_more s (integral r b) (λ x y k l. omega (arith, ints, integral_right r b x y))
    (λ x y k l. omega (arith, ints, integral_below s.wide s.high r b (λ x' y' k' l'. omega (arith, ints, e x' y' k' l')) x y k l))

-- what steps are to be more than expected, if round every square it makes up for its residue, is what the steps of the integral are more
pub integral_more : (s : Steps) (a b : ℕ → ℕ → ℤ) →
    ((x y : ℕ) → suc x < s.wide → suc y < s.high → (a x y +ℤ b (suc x) y) -ℤ (b x y +ℤ a x (suc y)) ≡ pos 0 -ℤ residue s x y) →
    ((x y : ℕ) → more_right s (integral (λ x y. s.to_right x y +ℤ a x y) (λ x y. s.to_below x y +ℤ b x y)) x y ≡ a x y) ×
    ((x y : ℕ) → x < s.wide → suc y < s.high → more_below s (integral (λ x y. s.to_right x y +ℤ a x y) (λ x y. s.to_below x y +ℤ b x y)) x y ≡ b x y)
unfolding more_right more_below residue
integral_more s a b e =
    let r : ℕ → ℕ → ℤ = λ x y. s.to_right x y +ℤ a x y in
    let d : ℕ → ℕ → ℤ = λ x y. s.to_below x y +ℤ b x y in
    (λ x y. omega (arith, ints, integral_right r d x y), λ x y k l. omega (arith, ints, integral_below s.wide s.high r d (λ i j m n. closed (s.to_right i j) (s.to_below (suc i) j) (s.to_below i j) (s.to_right i (suc j)) (a i j) (b (suc i) j) (b i j) (a i (suc j)) (e i j m n)) x y k l))
  where
    closed : (e f g i k l m n : ℤ) → (k +ℤ l) -ℤ (m +ℤ n) ≡ pos 0 -ℤ ((e +ℤ f) -ℤ (g +ℤ i)) → (e +ℤ k) +ℤ (f +ℤ l) ≡ (g +ℤ m) +ℤ (i +ℤ n)
    closed e f g i k l m n p = omega (arith, ints)

pub round_residue : ResidueTurns
unfolding residue turn_steps
round_residue f x y = round_turns f.turn (pos (f.seen x y)) (pos (f.seen (suc x) y)) (pos (f.seen x (suc y))) (pos (f.seen (suc x) (suc y)))

pub round_is : (f : Field) (x y : ℕ) → round f x y ≡ residue (steps_of f) x y
unfolding residue steps_of
round_is f x y = refl

-- the turns that the integration of a field makes
pub come_back_turns : (f : Field) → 1 ≤ f.turn → AllComeBack f →
    cost f (integral (turn_steps f).to_right (turn_steps f).to_below) ≡ 0
unfolding turn_steps
come_back_turns f l e =
    let z = integral_costs_nothing (turn_steps f) (λ x y a b. mul_cancel_ℤ f.turn (residue (turn_steps f) x y) (pos 0) l (sym (round_residue f x y) ∙ e x y a b ∙ sym (zero_mul_ℤ (pos f.turn)))) in
    cost_turns f _ ∙ ap (λ (n : ℕ). f.turn * n) z ∙ mul-zero f.turn

pub costs_nothing : CostsNothing
unfolding steps_of
costs_nothing f fit =
    (λ e. (integral (turn_steps f).to_right (turn_steps f).to_below, come_back_turns f (omega arith) e), λ p c x y k l. back p c x y k l)
  where
    back : AllPriced f → (t : Turns) × (cost f t ≡ 0) → AllComeBack f
    back p c x y k l =
        let z = more_nothing (steps_of f) (height f c.0) p.right p.below (sym (cost_is f c.0) ∙ c.1) in
        omega (arith, ints, round_is f x y, more_round (steps_of f) (height f c.0) x y, z.0 x y k (omega arith), z.0 x (suc y) k l, z.1 x y (omega arith) l, z.1 (suc x) y k l)

-- ---- found again

-- what no step changes is the same at all places
pub same_all_over : (w h : ℕ) (g : ℕ → ℕ → ℤ) → ((x y : ℕ) → suc x < w → y < h → g (suc x) y ≡ g x y) → ((x y : ℕ) → x < w → suc y < h → g x (suc y) ≡ g x y) →
    (x y : ℕ) → x < w → y < h → g x y ≡ g 0 0
same_all_over w h g p q zero zero k l = refl
same_all_over w h g p q zero (suc y) k l = q 0 y k l ∙ same_all_over w h g p q zero y k (omega arith)
same_all_over w h g p q (suc x) y k l = p x y k l ∙ same_all_over w h g p q x y (omega arith) l

pub found_again : FoundAgain
unfolding steps_of
found_again f t u fit priced smooth least =
    let none : cost f t ≡ 0 = cost_is f t ∙ nothing_more (steps_of f) (height f t) as_right as_below in
    let zero' : cost f u ≡ 0 = omega (arith, least t) in
    let z = more_nothing (steps_of f) (height f u) priced.right priced.below (sym (cost_is f u) ∙ zero') in
    let same = same_all_over f.wide f.high (λ x y. height f u x y -ℤ height f t x y)
    (λ x y k l. steps_cancel (height f u x y) (height f u (suc x) y) (height f t x y) (height f t (suc x) y) (expected_right f x y) (is_right u x y (z.0 x y k l)) (is_right t x y (as_right x y k l)))
    (λ x y k l. steps_cancel (height f u x y) (height f u x (suc y)) (height f t x y) (height f t x (suc y)) (expected_below f x y) (is_below u x y (z.1 x y k l)) (is_below t x y (as_below x y k l))) in
    (u 0 0 -ℤ t 0 0, λ x y k l. by_first (height f u x y) (height f t x y) (same x y k l))
  where
    as_right : (x y : ℕ) → suc x < f.wide → y < f.high → more_right (steps_of f) (height f t) x y ≡ pos 0
    as_right x y k l = unfold more_right step_right in omega (arith, ints, step_right_is f t x y fit k l (smooth.right x y k l))

    as_below : (x y : ℕ) → x < f.wide → suc y < f.high → more_below (steps_of f) (height f t) x y ≡ pos 0
    as_below x y k l = unfold more_below step_below in omega (arith, ints, step_below_is f t x y fit k l (smooth.below x y k l))

    is_right : (v : Turns) (x y : ℕ) → more_right (steps_of f) (height f v) x y ≡ pos 0 → (height f v (suc x) y -ℤ height f v x y) -ℤ expected_right f x y ≡ pos 0
    is_right v x y e = unfold more_right in e

    is_below : (v : Turns) (x y : ℕ) → more_below (steps_of f) (height f v) x y ≡ pos 0 → (height f v x (suc y) -ℤ height f v x y) -ℤ expected_below f x y ≡ pos 0
    is_below v x y e = unfold more_below in e

    steps_cancel : (a b c d e : ℤ) → (b -ℤ a) -ℤ e ≡ pos 0 → (d -ℤ c) -ℤ e ≡ pos 0 → b -ℤ d ≡ a -ℤ c
    steps_cancel a b c d e i j = omega (arith, ints)

    by_first : (a b : ℤ) → a -ℤ b ≡ height f u 0 0 -ℤ height f t 0 0 → a ≡ b +ℤ ((u 0 0 -ℤ t 0 0) *ℤ pos f.turn)
    by_first a b e = unfold height in omega (arith, ints, sub_mul_ℤ (u 0 0) (t 0 0) (pos f.turn))
