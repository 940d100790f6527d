-- Potentials of squares show that nothing costs less than their value: a step's number times what it is more by is at most what it costs, and summed by parts these are the value.
use Rattle.std.proofs.Common.{◌≡◌, ℕ, zero, suc, pred, ◌*◌, ◌<◌, ◌≤◌, ℤ, pos, ◌+ℤ◌, ◌-ℤ◌, ◌*ℤ◌, neg_ℤ, nat_abs, ◌≤ℤ◌, sym, refl, ap, ◌∙◌, subst, ap₂, arith}
use Rattle.std.proofs.lemmas.Int.{ints}
use Rattle.sums.specs.Sum.{sum_ℤ}
use Rattle.sums.proofs.Ring.{ring, mul_add_ℤ, mul_le_price, mul_assoc_ℤ}
use Rattle.sums.proofs.Sum.{sum_ℤ_ext, sum_ℤ_swap, sum_ℤ_parts_edge}
use Rattle.sums.proofs.Table.{table_ℤ_ext, table_ℤ_le, table_ℤ_add, table_ℤ_pos, table_ℤ_scale_right}
use Rattle.phase_field.specs.Field.{Field, Turns, height}
use Rattle.phase_cost.specs.Cost.{Least}
use Rattle.phase_cost.specs.Steps.{Steps, Heights, more_right, more_below, all_steps, heights_cost, residue, steps_of, turn_steps, integral}
use Rattle.phase_cost.specs.Certificate.{Potentials, IsDualFeasible, dual_value}
use Rattle.phase_cost.specs.Theorems.{CertifiedHeights, CertifiedTurns}
use Rattle.phase_cost.proofs.Cost.{cost_is, least_from_turns}
use Rattle.phase_cost.proofs.Integral.{integral_more, more_round, round_is, round_residue}

-- ---- by parts

-- down a column, where the numbers are 0 above and below
column : (n : ℕ) (p k : ℕ → ℤ) → p 0 ≡ pos 0 → p n ≡ pos 0 → sum_ℤ n (λ y. (p y -ℤ p (suc y)) *ℤ k y) ≡ sum_ℤ (pred n) (λ y. p (suc y) *ℤ (k (suc y) -ℤ k y))
unfolding sum_ℤ
column zero p k a b = refl
column (suc n) p k a b =
    sum_ℤ_ext (suc n) _ (λ y. (p (suc y) -ℤ p y) *ℤ neg_ℤ (k y)) (λ y l. simp ring (omega (arith, ints)))
    ∙ sum_ℤ_parts_edge n p (λ y. neg_ℤ (k y)) a b
    ∙ sum_ℤ_ext n _ _ (λ y l. ap (λ (z : ℤ). p (suc y) *ℤ z) (turned (k y) (k (suc y))))
  where
    turned : (a b : ℤ) → neg_ℤ a -ℤ neg_ℤ b ≡ b -ℤ a
    turned a b = omega (arith, ints)

-- along a row, where the numbers are 0 to the left and to the right
row : (n : ℕ) (p k : ℕ → ℤ) → p 0 ≡ pos 0 → p n ≡ pos 0 → sum_ℤ n (λ x. (p (suc x) -ℤ p x) *ℤ k x) ≡ sum_ℤ (pred n) (λ x. p (suc x) *ℤ (k x -ℤ k (suc x)))
unfolding sum_ℤ
row zero p k a b = refl
row (suc n) p k a b = sum_ℤ_parts_edge n p k a b

columns : (w h : ℕ) (q k : ℕ → ℕ → ℤ) → ((x : ℕ) → x < w → q x 0 ≡ pos 0) → ((x : ℕ) → x < w → q x h ≡ pos 0) →
    sum_ℤ h (λ y. sum_ℤ w (λ x. (q x y -ℤ q x (suc y)) *ℤ k x y)) ≡ sum_ℤ (pred h) (λ y. sum_ℤ w (λ x. q x (suc y) *ℤ (k x (suc y) -ℤ k x y)))
columns w h q k a b =
    sum_ℤ_swap h w (λ y x. (q x y -ℤ q x (suc y)) *ℤ k x y)
    ∙ sum_ℤ_ext w (λ x. sum_ℤ h (λ y. (q x y -ℤ q x (suc y)) *ℤ k x y)) (λ x. sum_ℤ (pred h) (λ y. q x (suc y) *ℤ (k x (suc y) -ℤ k x y))) (λ x l. column h (q x) (k x) (a x l) (b x l))
    ∙ sum_ℤ_swap w (pred h) (λ x y. q x (suc y) *ℤ (k x (suc y) -ℤ k x y))

rows : (w h : ℕ) (q k : ℕ → ℕ → ℤ) → ((y : ℕ) → y < h → q 0 y ≡ pos 0) → ((y : ℕ) → y < h → q w y ≡ pos 0) →
    sum_ℤ h (λ y. sum_ℤ w (λ x. (q (suc x) y -ℤ q x y) *ℤ k x y)) ≡ sum_ℤ h (λ y. sum_ℤ (pred w) (λ x. q (suc x) y *ℤ (k x y -ℤ k (suc x) y)))
rows w h q k a b =
    sum_ℤ_ext h (λ y. sum_ℤ w (λ x. (q (suc x) y -ℤ q x y) *ℤ k x y)) (λ y. sum_ℤ (pred w) (λ x. q (suc x) y *ℤ (k x y -ℤ k (suc x) y)))
    (λ y l. row w (λ x. q x y) (λ x. k x y) (a y l) (b y l))

square : (q a b c d o : ℤ) → (a +ℤ b) -ℤ (c +ℤ d) ≡ pos 0 -ℤ o → (q *ℤ (d -ℤ a)) +ℤ (q *ℤ (c -ℤ b)) ≡ q *ℤ o
square q a b c d o e = sym (mul_add_ℤ q (d -ℤ a) (c -ℤ b)) ∙ ap (λ (z : ℤ). q *ℤ z) (omega (arith, ints))

-- each step's number times what heights are more by, over all steps, whatever the heights
unfoldable pub steps_value : Steps → Potentials → Heights → ℤ
steps_value s q h =
    sum_ℤ s.high (λ y. sum_ℤ (pred s.wide) (λ x. (q (suc x) y -ℤ q (suc x) (suc y)) *ℤ more_right s h x y))
    +ℤ sum_ℤ (pred s.high) (λ y. sum_ℤ s.wide (λ x. (q (suc x) (suc y) -ℤ q x (suc y)) *ℤ more_below s h x y))

pub steps_value_is : (s : Steps) (q : Potentials) (h : Heights) → IsDualFeasible s q → steps_value s q h ≡ dual_value s q
unfolding steps_value dual_value
steps_value_is s q h c =
    ap₂ (λ (a b : ℤ). a +ℤ b)
    (columns (pred s.wide) s.high (λ x y. q (suc x) y) (more_right s h) (λ x l. c.top x (omega arith)) (λ x l. c.bottom x (omega arith)))
    (rows s.wide (pred s.high) (λ x y. q x (suc y)) (more_below s h) (λ y l. c.left y (omega arith)) (λ y l. c.end y (omega arith)))
    ∙ sym (table_ℤ_add (pred s.wide) (pred s.high) (λ x y. q (suc x) (suc y) *ℤ (more_right s h x (suc y) -ℤ more_right s h x y)) (λ x y. q (suc x) (suc y) *ℤ (more_below s h x y -ℤ more_below s h (suc x) y)))
    ∙ table_ℤ_ext (pred s.wide) (pred s.high) _ (λ x y. q (suc x) (suc y) *ℤ residue s x y)
    (λ x y k l. square (q (suc x) (suc y)) (more_right s h x y) (more_below s h (suc x) y) (more_below s h x y) (more_right s h x (suc y)) (residue s x y) (more_round s h x y))

-- ---- what the numbers show

priced : (a b k : ℤ) (p : ℕ) → nat_abs (a -ℤ b) ≤ p → ((b -ℤ a) *ℤ k) ≤ℤ pos (p * nat_abs k)
priced a b k p l = mul_le_price (b -ℤ a) k p (omega (arith, ints))

pub steps_value_le : (s : Steps) (q : Potentials) (h : Heights) → IsDualFeasible s q → steps_value s q h ≤ℤ pos (heights_cost s h)
unfolding steps_value heights_cost all_steps
steps_value_le s q h c =
    omega (
      arith,
      ints,
      table_ℤ_le (pred s.wide) s.high (λ x y. (q (suc x) y -ℤ q (suc x) (suc y)) *ℤ more_right s h x y) (λ x y. pos (s.right x y * nat_abs (more_right s h x y))) (λ x y k l. priced (q (suc x) (suc y)) (q (suc x) y) (more_right s h x y) (s.right x y) (c.right x y (omega arith) l)),
      table_ℤ_le s.wide (pred s.high) (λ x y. (q (suc x) (suc y) -ℤ q x (suc y)) *ℤ more_below s h x y) (λ x y. pos (s.below x y * nat_abs (more_below s h x y))) (λ x y k l. mul_le_price (q (suc x) (suc y) -ℤ q x (suc y)) (more_below s h x y) (s.below x y) (c.below x y k (omega arith))),
      table_ℤ_pos (pred s.wide) s.high (λ x y. s.right x y * nat_abs (more_right s h x y)),
      table_ℤ_pos s.wide (pred s.high) (λ x y. s.below x y * nat_abs (more_below s h x y)),
    )

pub certified_heights : CertifiedHeights
certified_heights s q c =
    let low : (h : Heights) → dual_value s q ≤ℤ pos (heights_cost s h) = λ h. omega (arith, ints, steps_value_is s q h c, steps_value_le s q h c) in
    (low, λ h e g. omega (arith, ints, low g))

-- heights whose every step costs as much as its number brings reach the value
pub certified_reached : (s : Steps) (q : Potentials) (h : Heights) → IsDualFeasible s q →
    ((x y : ℕ) → suc x < s.wide → y < s.high → (q (suc x) y -ℤ q (suc x) (suc y)) *ℤ more_right s h x y ≡ pos (s.right x y * nat_abs (more_right s h x y))) →
    ((x y : ℕ) → x < s.wide → suc y < s.high → (q (suc x) (suc y) -ℤ q x (suc y)) *ℤ more_below s h x y ≡ pos (s.below x y * nat_abs (more_below s h x y))) →
    pos (heights_cost s h) ≡ dual_value s q
unfolding steps_value heights_cost all_steps
certified_reached s q h c a b =
    sym (ap₂ (λ (i j : ℤ). i +ℤ j)
    (table_ℤ_ext (pred s.wide) s.high _ (λ x y. pos (s.right x y * nat_abs (more_right s h x y))) (λ x y k l. a x y (omega arith) l) ∙ table_ℤ_pos (pred s.wide) s.high (λ x y. s.right x y * nat_abs (more_right s h x y)))
    (table_ℤ_ext s.wide (pred s.high) _ (λ x y. pos (s.below x y * nat_abs (more_below s h x y))) (λ x y k l. b x y k (omega arith)) ∙ table_ℤ_pos s.wide (pred s.high) (λ x y. s.below x y * nat_abs (more_below s h x y))))
    ∙ steps_value_is s q h c

-- what a flow between squares shows: a and b, on the steps to the right and down, make up for the residue of each square, and cost
-- as much as the numbers bring, so the integral reaches the value
pub flow_reached : (s : Steps) (q : Potentials) (a b : ℕ → ℕ → ℤ) → IsDualFeasible s q →
    ((x y : ℕ) → suc x < s.wide → suc y < s.high → (a x y +ℤ b (suc x) y) -ℤ (b x y +ℤ a x (suc y)) ≡ pos 0 -ℤ residue s x y) →
    ((x y : ℕ) → suc x < s.wide → y < s.high → (q (suc x) y -ℤ q (suc x) (suc y)) *ℤ a x y ≡ pos (s.right x y * nat_abs (a x y))) →
    ((x y : ℕ) → x < s.wide → suc y < s.high → (q (suc x) (suc y) -ℤ q x (suc y)) *ℤ b x y ≡ pos (s.below x y * nat_abs (b x y))) →
    pos (heights_cost s (integral (λ x y. s.to_right x y +ℤ a x y) (λ x y. s.to_below x y +ℤ b x y))) ≡ dual_value s q
flow_reached s q a b c e f g =
    let h : Heights = integral (λ x y. s.to_right x y +ℤ a x y) (λ x y. s.to_below x y +ℤ b x y) in
    let is = integral_more s a b e in
    certified_reached s q h c
    (λ x y k l. subst (λ (z : ℤ). (q (suc x) y -ℤ q (suc x) (suc y)) *ℤ z ≡ pos (s.right x y * nat_abs z)) (sym (is.0 x y)) (f x y k l))
    (λ x y k l. subst (λ (z : ℤ). (q (suc x) (suc y) -ℤ q x (suc y)) *ℤ z ≡ pos (s.below x y * nat_abs z)) (sym (is.1 x y k l)) (g x y k l))

-- ---- for fields

pub certified_turns : CertifiedTurns
certified_turns f t q c e u =
    let l = (certified_heights (steps_of f) q c).1 (height f t) (sym (ap pos (cost_is f t)) ∙ e) (height f u) in
    omega (arith, cost_is f t, cost_is f u)

-- the same in whole turns
pub certified_whole_turns : (f : Field) (t : Turns) (q : Potentials) → IsDualFeasible (turn_steps f) q → pos (heights_cost (turn_steps f) t) ≡ dual_value (turn_steps f) q → Least f t
certified_whole_turns f t q c e = least_from_turns f t ((certified_heights (turn_steps f) q c).1 t e)

-- numbers that certify the one certify the other
pub certified_both : (f : Field) (q : Potentials) → IsDualFeasible (turn_steps f) q → IsDualFeasible (steps_of f) q
unfolding turn_steps steps_of
certified_both f q c = record { top = c.top; bottom = c.bottom; left = c.left; end = c.end; right = c.right; below = c.below }

pub value_turns : (f : Field) (q : Potentials) → dual_value (steps_of f) q ≡ dual_value (turn_steps f) q *ℤ pos f.turn
unfolding dual_value steps_of turn_steps
value_turns f q =
    table_ℤ_ext (pred f.wide) (pred f.high) _ (λ x y. (q (suc x) (suc y) *ℤ residue (turn_steps f) x y) *ℤ pos f.turn)
    (λ x y k l. ap (λ (z : ℤ). q (suc x) (suc y) *ℤ z) (sym (round_is f x y) ∙ round_residue f x y) ∙ sym (mul_assoc_ℤ (q (suc x) (suc y)) (residue (turn_steps f) x y) (pos f.turn)))
    ∙ table_ℤ_scale_right (pred f.wide) (pred f.high) (pos f.turn) (λ x y. q (suc x) (suc y) *ℤ residue (turn_steps f) x y)
