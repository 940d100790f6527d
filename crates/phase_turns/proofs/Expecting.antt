-- The steps that are expected of a field, as they are listed: their residues, and what turns cost over them.
use Rattle.std.proofs.Common.{◌≡◌, ℕ, suc, pred, ◌+◌, ◌*◌, ◌/◌, ◌%◌, ◌<◌, List, get_or, ℤ, pos, ◌-ℤ◌, ◌*ℤ◌, nat_abs, sym, refl, ap, ◌∙◌, ap₂, arith}
use Rattle.std.proofs.lemmas.Nat.{div-mul-add, mod-mul-add}
use Rattle.sums.proofs.Ring.{zero_mul_ℤ}
use Rattle.phase_field.specs.Field.{Field, Turns, round, turns_in}
use Rattle.phase_field.specs.Model.{turns_right, turns_below}
use Rattle.phase_cost.specs.Cost.{cost, AllComeBack}
use Rattle.phase_cost.specs.Steps.{heights_cost, more_right, more_below, turn_steps, steps_in, residue, NoResidues}
use Rattle.phase_cost.proofs.Cost.{all_steps_ext, cost_turns}
use Rattle.phase_cost.proofs.Integral.{round_residue}
use Rattle.phase_turns.specs.Follow.{Expected, StepsSmall}
use Rattle.phase_turns.specs.Residue.{counted, row_residue_count, residue_count}
use Rattle.sums.specs.Sum.{sum_to}
use Rattle.sums.proofs.Sum.{sum_ext}

-- expected steps by column and row
pub listed_right : (f : Field) (right below : List ℤ) → Expected f right below → (x y : ℕ) → suc x < f.wide → y < f.high → get_or right (y * f.wide + x) (pos 0) ≡ turns_right f x y
listed_right f right below e x y k l =
    let column : (y * f.wide + x) % f.wide ≡ x = mod-mul-add y f.wide x (omega arith) in
    let line : (y * f.wide + x) / f.wide ≡ y = div-mul-add y f.wide x (omega arith) in
    e.right_at (y * f.wide + x) (omega (arith, column), omega (arith, line)) ∙ ap₂ (λ (u v : ℕ). turns_right f u v) column line

pub listed_below : (f : Field) (right below : List ℤ) → Expected f right below → (x y : ℕ) → x < f.wide → suc y < f.high → get_or below (y * f.wide + x) (pos 0) ≡ turns_below f x y
listed_below f right below e x y k l =
    let column : (y * f.wide + x) % f.wide ≡ x = mod-mul-add y f.wide x k in
    let line : (y * f.wide + x) / f.wide ≡ y = div-mul-add y f.wide x k in
    e.below_at (y * f.wide + x) (omega (arith, line)) ∙ ap₂ (λ (u v : ℕ). turns_below f u v) column line

-- a square's residue is that of the expected steps, wherever these come from
pub residue_expected : (f : Field) (right below : List ℤ) → Expected f right below → (x y : ℕ) → suc x < f.wide → suc y < f.high → residue (steps_in f right below) x y ≡ residue (turn_steps f) x y
unfolding residue steps_in turn_steps turns_in
residue_expected f right below e x y k l =
    let a = listed_right f right below e x y k (omega arith) in
    let b = listed_below f right below e (suc x) y k l in
    let c = listed_below f right below e x y (omega arith) l in
    let d = listed_right f right below e x (suc y) k l in
    cc

-- so the round of a square is its residue in turns
pub round_expected : (f : Field) (right below : List ℤ) → Expected f right below → (x y : ℕ) → suc x < f.wide → suc y < f.high → round f x y ≡ residue (steps_in f right below) x y *ℤ pos f.turn
round_expected f right below e x y k l =
    round_residue f x y ∙ ap (λ (z : ℤ). z *ℤ pos f.turn) (sym (residue_expected f right below e x y k l))

pub none_off : (f : Field) (right below : List ℤ) → Expected f right below → NoResidues (steps_in f right below) → AllComeBack f
none_off f right below e n x y k l =
    round_expected f right below e x y k l ∙ ap (λ (z : ℤ). z *ℤ pos f.turn) (sized f right below n x y k l) ∙ zero_mul_ℤ (pos f.turn)
  where
    sized : (f : Field) (right below : List ℤ) → NoResidues (steps_in f right below) → (x y : ℕ) → suc x < f.wide → suc y < f.high → residue (steps_in f right below) x y ≡ pos 0
    sized f right below n = unfold steps_in in n

-- and as many squares have a residue
pub count_expected : (f : Field) (right below : List ℤ) → Expected f right below → residue_count (steps_in f right below) ≡ residue_count (turn_steps f)
unfolding residue_count row_residue_count
count_expected f right below e = sizes f right below ∙ sum_ext (pred f.high) _ _ (λ y l. sum_ext (pred f.wide) _ _ (λ x k. ap counted (residue_expected f right below e x y (omega arith) (omega arith)))) ∙ turned f
  where
    sizes : (f : Field) (right below : List ℤ) → sum_to (pred (steps_in f right below).high) (λ y. sum_to (pred (steps_in f right below).wide) (λ x. counted (residue (steps_in f right below) x y))) ≡ sum_to (pred f.high) (λ y. sum_to (pred f.wide) (λ x. counted (residue (steps_in f right below) x y)))
    sizes f right below = unfold steps_in in refl

    turned : (f : Field) → sum_to (pred f.high) (λ y. sum_to (pred f.wide) (λ x. counted (residue (turn_steps f) x y))) ≡ sum_to (pred (turn_steps f).high) (λ y. sum_to (pred (turn_steps f).wide) (λ x. counted (residue (turn_steps f) x y)))
    turned f = unfold turn_steps in refl

-- and they are small
pub right_expected : (f : Field) (right below : List ℤ) → Expected f right below → StepsSmall right
right_expected f right below e k = omega (arith, e.right_small k)

pub below_expected : (f : Field) (right below : List ℤ) → Expected f right below → StepsSmall below
below_expected f right below e k = omega (arith, e.below_small k)

-- what turns cost over the expected steps, however these are listed
pub cost_expected : (f : Field) (right below : List ℤ) (t : Turns) → Expected f right below → f.turn * heights_cost (steps_in f right below) t ≡ cost f t
unfolding heights_cost more_right more_below steps_in turn_steps turns_in
cost_expected f right below t e =
    ap (λ (n : ℕ). f.turn * n)
    (all_steps_ext f.wide f.high _ _ _ _ (λ x y k l. ap (λ (z : ℤ). f.right x y * nat_abs ((t (suc x) y -ℤ t x y) -ℤ z)) (listed_right f right below e x y k l))
    (λ x y k l. ap (λ (z : ℤ). f.below x y * nat_abs ((t x (suc y) -ℤ t x y) -ℤ z)) (listed_below f right below e x y k l)))
    ∙ sym (cost_turns f t)
