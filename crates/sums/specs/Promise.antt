-- What is promised of sums. `Exchange` is the contract of `sums_exchange`.
use Rattle.std.specs.Prelude.{◌≡◌, ℕ, ℤ}
use Rattle.sums.specs.Sum.{sum_ℤ}

-- a table adds up to the same by rows and by columns
abbrev pub Exchange : Type 0
Exchange = (m n : ℕ) (g : ℕ → ℕ → ℤ) → sum_ℤ m (λ i. sum_ℤ n (λ j. g i j)) ≡ sum_ℤ n (λ j. sum_ℤ m (λ i. g i j))
