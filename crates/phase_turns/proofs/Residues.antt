-- Residues, square by square, as loops count them.
use Rattle.std.proofs.Common.{◌≡◌, ℕ, zero, suc, pred, ◌+◌, ◌-◌, ◌*◌, ◌≤◌, List, get_or, ℤ, pos, negsuc, ◌+ℤ◌, ◌-ℤ◌, refl, ap, ◌∙◌, mul-one, sub-one, arith}
use Rattle.sums.specs.Sum.{sum_to}
use Rattle.sums.proofs.Sum.{sum_at_most, sum_zero_each, sum_zero}
use Rattle.phase_field.specs.Field.{Field, turns_in}
use Rattle.phase_cost.specs.Steps.{Steps, residue, steps_in, NoResidues}
use Rattle.phase_turns.specs.Residue.{counted, row_residue_count, residue_count}

-- the residue of a square, from where its four steps stand
pub residue_at : (f : Field) (right below : List ℤ) (x y p : ℕ) → p ≡ y * f.wide + x →
    (get_or right p (pos 0) +ℤ get_or below (p + 1) (pos 0)) -ℤ (get_or below p (pos 0) +ℤ get_or right (p + f.wide) (pos 0)) ≡ residue (steps_in f right below) x y
unfolding residue steps_in turns_in
residue_at f right below x y p e =
    let a : p + 1 ≡ y * f.wide + suc x = omega arith in
    let b : p + f.wide ≡ suc y * f.wide + x = omega arith in
    cc

pub counted_most : (z : ℤ) → counted z ≤ 1
counted_most (pos zero) = omega arith
counted_most (pos (suc n)) = omega arith
counted_most (negsuc n) = omega arith

counted_none : (z : ℤ) → counted z ≡ 0 → z ≡ pos 0
counted_none (pos zero) e = refl
counted_none (pos (suc n)) e = absurd (omega arith)
counted_none (negsuc n) e = absurd (omega arith)

none_counted : (z : ℤ) → z ≡ pos 0 → counted z ≡ 0
none_counted z e = ap counted e

row_most : (s : Steps) (y : ℕ) → row_residue_count s y ≤ pred s.wide
unfolding row_residue_count
row_most s y = omega (arith, sum_at_most (pred s.wide) 1 (λ x. counted (residue s x y)) (λ x l. counted_most (residue s x y)), mul-one (pred s.wide))

pub row_small : (f : Field) (right below : List ℤ) (y : ℕ) → f.wide ≤ 64 → row_residue_count (steps_in f right below) y ≤ 63
row_small f right below y l = omega (arith, row_most (steps_in f right below) y, width f right below)
  where
    width : (f : Field) (right below : List ℤ) → (steps_in f right below).wide ≡ f.wide
    width f right below = unfold steps_in in refl

pub row_all : (f : Field) (right below : List ℤ) (y n : ℕ) → n ≡ f.wide - 1 → sum_to n (λ x. counted (residue (steps_in f right below) x y)) ≡ row_residue_count (steps_in f right below) y
unfolding row_residue_count
row_all f right below y n e = ap (λ (k : ℕ). sum_to k (λ x. counted (residue (steps_in f right below) x y))) (e ∙ sub-one f.wide) ∙ same
  where
    same : sum_to (pred f.wide) (λ x. counted (residue (steps_in f right below) x y)) ≡ sum_to (pred (steps_in f right below).wide) (λ x. counted (residue (steps_in f right below) x y))
    same = unfold steps_in in refl

pub count_all : (f : Field) (right below : List ℤ) (n : ℕ) → n ≡ f.high - 1 → sum_to n (row_residue_count (steps_in f right below)) ≡ residue_count (steps_in f right below)
unfolding residue_count
count_all f right below n e = ap (λ (k : ℕ). sum_to k (row_residue_count (steps_in f right below))) (e ∙ sub-one f.high) ∙ same
  where
    same : sum_to (pred f.high) (row_residue_count (steps_in f right below)) ≡ sum_to (pred (steps_in f right below).high) (row_residue_count (steps_in f right below))
    same = unfold steps_in in refl

pub no_residues : (s : Steps) → residue_count s ≡ 0 → NoResidues s
unfolding residue_count row_residue_count
no_residues s e x y k l =
    counted_none (residue s x y)
    (sum_zero_each (pred s.wide) (λ i. counted (residue s i y))
    (sum_zero_each (pred s.high) (λ j. sum_to (pred s.wide) (λ i. counted (residue s i j))) e y (omega arith)) x (omega arith))

pub none_is_zero : (s : Steps) → NoResidues s → residue_count s ≡ 0
unfolding residue_count row_residue_count
none_is_zero s n =
    sum_zero (pred s.high) _ (λ y l. sum_zero (pred s.wide) _ (λ x k. none_counted (residue s x y) (n x y (omega arith) (omega arith))))
