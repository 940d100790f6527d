-- Sums as a loop adds them up.
use Rattle.std.proofs.Common.{◌≡◌, ℕ, ◌+◌, ℤ, pos, ◌+ℤ◌, refl, add-one}
use Rattle.sums.specs.Sum.{sum_to, sum_ℤ}

pub sum_none : (g : ℕ → ℕ) → sum_to 0 g ≡ 0
unfolding sum_to
sum_none g = refl

pub sum_more : (n : ℕ) (g : ℕ → ℕ) → sum_to (n + 1) g ≡ sum_to n g + g n
unfolding sum_to
sum_more n g = rw (add-one n)

pub sum_ℤ_none : (g : ℕ → ℤ) → sum_ℤ 0 g ≡ pos 0
unfolding sum_ℤ
sum_ℤ_none g = refl

pub sum_ℤ_more : (n : ℕ) (g : ℕ → ℤ) → sum_ℤ (n + 1) g ≡ sum_ℤ n g +ℤ g n
unfolding sum_ℤ
sum_ℤ_more n g = rw (add-one n)
