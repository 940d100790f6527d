-- How many squares have a residue.
use Rattle.std.specs.Prelude.{ℕ, zero, suc, pred, ℤ, pos, negsuc}
use Rattle.sums.specs.Sum.{sum_to}
use Rattle.phase_cost.specs.Steps.{Steps, residue}

-- 1 for a residue, whichever way
abbrev pub counted : ℤ → ℕ
counted (pos zero) = 0
counted (pos (suc n)) = 1
counted (negsuc n) = 1

-- between row y and the one below it
unfoldable pub row_residue_count : Steps → ℕ → ℕ
row_residue_count s y = sum_to (pred s.wide) (λ x. counted (residue s x y))

unfoldable pub residue_count : Steps → ℕ
residue_count s = sum_to (pred s.high) (λ y. row_residue_count s y)
