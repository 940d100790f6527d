-- Sums with one term only, one term of a sum, and sums over an index that is taken to another and back.
use Rattle.std.proofs.Common.{◌≡◌, ℕ, zero, suc, ◌<◌, ◌≤◌, cond, eqb, ◌⊎◌, ℤ, pos, ◌≤ℤ◌, sym, ap, ◌∙◌, inl, inr, arith}
use Rattle.std.proofs.lemmas.Int.{ints}
use Rattle.std.proofs.lemmas.Bool.{eq-eqb, ne_eqb, cases_eq, cond-true, cond-false}
use Rattle.sums.specs.Sum.{sum_ℤ}
use Rattle.sums.proofs.Sum.{sum_ℤ_ext, sum_ℤ_zero, sum_ℤ_nonneg, sum_ℤ_swap}

-- one term of terms that are not negative
pub one_of_sum : (n : ℕ) (f : ℕ → ℤ) → ((i : ℕ) → i < n → pos 0 ≤ℤ f i) → (k : ℕ) → k < n → f k ≤ℤ sum_ℤ n f
unfolding sum_ℤ
one_of_sum zero f h k l = absurd (omega arith)
one_of_sum (suc n) f h k l = elim (cases_eq k n) [
  | inl e ↦ omega (arith, ints, ap f e, sum_ℤ_nonneg n f (λ i m. h i (omega arith)))
  | inr ne ↦ omega (arith, ints, one_of_sum n f (λ i m. h i (omega arith)) k (omega arith), h n (omega arith))
]

-- z at k, and nothing elsewhere
pub point_past : (n k : ℕ) (z : ℤ) → n ≤ k → sum_ℤ n (λ i. cond (eqb i k) z (pos 0)) ≡ pos 0
point_past n k z h = sum_ℤ_zero n (λ i. cond (eqb i k) z (pos 0)) (λ i l. cond-false (eqb i k) z (pos 0) (ne_eqb i k (λ e. omega arith)))

pub point_sum : (n k : ℕ) (z : ℤ) → k < n → sum_ℤ n (λ i. cond (eqb i k) z (pos 0)) ≡ z
unfolding sum_ℤ
point_sum zero k z h = absurd (omega arith)
point_sum (suc n) k z h = elim (cases_eq n k) [
  | inl e ↦ omega (arith, ints, point_past n k z (omega arith), cond-true (eqb n k) z (pos 0) (eq-eqb n k e))
  | inr ne ↦ omega (arith, ints, point_sum n k z (omega arith), cond-false (eqb n k) z (pos 0) (ne_eqb n k ne))
]

-- the same with the index on the other side of the test
pub point_sum_at : (n k : ℕ) (f : ℕ → ℤ) → k < n → sum_ℤ n (λ i. cond (eqb k i) (f i) (pos 0)) ≡ f k
point_sum_at n k f h =
    sum_ℤ_ext n (λ i. cond (eqb k i) (f i) (pos 0)) (λ i. cond (eqb i k) (f k) (pos 0)) (λ i l. turn i (cases_eq i k)) ∙ point_sum n k (f k) h
  where
    turn : (i : ℕ) → (i ≡ k) ⊎ (i ≡ k → ⊥) → cond (eqb k i) (f i) (pos 0) ≡ cond (eqb i k) (f k) (pos 0)
    turn i (inl e) = cond-true (eqb k i) (f i) (pos 0) (eq-eqb k i (sym e)) ∙ (ap f e ∙ sym (cond-true (eqb i k) (f k) (pos 0) (eq-eqb i k e)))
    turn i (inr n) = cond-false (eqb k i) (f i) (pos 0) (ne_eqb k i (λ e. n (sym e))) ∙ sym (cond-false (eqb i k) (f k) (pos 0) (ne_eqb i k n))

-- a sum by the value of a function t of the index: all terms, each where its value is
pub sum_by : (m n : ℕ) (t : ℕ → ℕ) (f : ℕ → ℕ → ℤ) → ((i : ℕ) → i < m → t i < n) → sum_ℤ n (λ v. sum_ℤ m (λ i. cond (eqb (t i) v) (f i v) (pos 0))) ≡ sum_ℤ m (λ i. f i (t i))
sum_by m n t f within =
    sum_ℤ_swap n m (λ v i. cond (eqb (t i) v) (f i v) (pos 0))
    ∙ sum_ℤ_ext m (λ i. sum_ℤ n (λ v. cond (eqb (t i) v) (f i v) (pos 0))) (λ i. f i (t i)) (λ i l. point_sum_at n (t i) (f i) (within i l))

-- an index taken to another and back: the sum is the same
pub sum_paired : (n : ℕ) (s : ℕ → ℕ) (f : ℕ → ℤ) → ((i : ℕ) → i < n → s i < n) → ((i : ℕ) → i < n → s (s i) ≡ i) → sum_ℤ n (λ i. f (s i)) ≡ sum_ℤ n f
sum_paired n s f within back =
    sym (sum_by n n s (λ i v. f v) within)
    ∙ sum_ℤ_ext n (λ v. sum_ℤ n (λ i. cond (eqb (s i) v) (f v) (pos 0))) f (λ v l. sum_ℤ_ext n (λ i. cond (eqb (s i) v) (f v) (pos 0)) (λ i. cond (eqb i (s v)) (f v) (pos 0)) (λ i m. turn v l i m (cases_eq i (s v))) ∙ point_sum n (s v) (f v) (within v l))
  where
    turn : (v : ℕ) → v < n → (i : ℕ) → i < n → (i ≡ s v) ⊎ (i ≡ s v → ⊥) → cond (eqb (s i) v) (f v) (pos 0) ≡ cond (eqb i (s v)) (f v) (pos 0)
    turn v l i m (inl e) = cond-true (eqb (s i) v) (f v) (pos 0) (eq-eqb (s i) v (ap s e ∙ back v l)) ∙ sym (cond-true (eqb i (s v)) (f v) (pos 0) (eq-eqb i (s v) e))
    turn v l i m (inr o) = cond-false (eqb (s i) v) (f v) (pos 0) (ne_eqb (s i) v (λ e. o (sym (back i m) ∙ ap s e))) ∙ sym (cond-false (eqb i (s v)) (f v) (pos 0) (ne_eqb i (s v) o))
