-- Rows of numbers as they are printed, and the cost.
use Rattle.std.specs.Prelude.{ℕ, zero, suc, List, [], ◌∷◌, ◌++◌, take, drop, ℤ, codes, decimal}
use Rattle.std.specs.Fmt.{signed_decimal}
use Rattle.print.specs.declared.rows.Parting.{Parting}
use Rattle.print.specs.declared.rows.Parting.TheVariants.{Space, Comma}

-- a space or a comma
abbrev pub code_of : Parting → ℕ
code_of Space = 32
code_of Comma = 44

-- each number after what parts it from the one before
unfoldable pub more_text : Parting → List ℤ → List ℕ
more_text p [] = []
more_text p (z ∷ zs) = code_of p ∷ (signed_decimal z ++ more_text p zs)

-- numbers that are parted so
abbrev pub row_text : Parting → List ℤ → List ℕ
row_text p [] = []
row_text p (z ∷ zs) = signed_decimal z ++ more_text p zs

-- so many rows, a line each
unfoldable pub rows_text : Parting → ℕ → ℕ → List ℤ → List ℕ
rows_text p wide zero zs = []
rows_text p wide (suc high) zs = row_text p (take wide zs) ++ (10 ∷ rows_text p wide high (drop wide zs))

abbrev pub cost_text : ℕ → List ℕ
cost_text n = codes "cost " ++ (decimal n ++ (10 ∷ []))
