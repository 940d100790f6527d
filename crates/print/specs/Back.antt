-- Rows that are read back. Each statement is the contract of a function of its name.
use Rattle.std.specs.Prelude.{◌≡◌, ℕ, ◌^◌, ◌<◌, ◌≤◌, if◌then◌else◌, List, [], ◌∷◌, map, ℤ, pos, neg_ℤ, Some, None, Ok, Option, ◌==◌}
use Rattle.std.specs.Int.Signed.{mag}
use Rattle.std.specs.Option.{option_map}
use Rattle.std.specs.List.{AllByRecursion}
use Rattle.std.specs.Option.{option_and_then}
use Rattle.text_words.specs.Numeral.{numeral}
use Rattle.text_words.specs.Pieces.{words}
use Rattle.text.specs.Section.{row_onto}
use Rattle.print.specs.declared.rows.Parting.TheVariants.{Space}
use Rattle.print.specs.Rows.{row_text}

-- a number with a minus sign, which is 45, or without
abbrev pub signed_numeral : List ℕ → Option ℤ
signed_numeral [] = None
signed_numeral (b ∷ bs) =
    if b == 45 then option_map (λ n. neg_ℤ (pos n)) (numeral bs) else option_map pos (numeral (b ∷ bs))

abbrev pub onto_row : ℤ → Option (List ℤ) → Option (List ℤ)
onto_row z None = None
onto_row z (Some zs) = Some (z ∷ zs)

unfoldable pub signed_row : List (List ℕ) → Option (List ℤ)
signed_row [] = Some []
signed_row (w ∷ ws) = option_and_then (λ z. onto_row z (signed_row ws)) (signed_numeral w)

-- a printed row of numbers of 64 bits says these numbers
abbrev pub RowsReadBack : Type 0
RowsReadBack = (zs : List ℤ) → AllByRecursion (λ z. mag z < 2 ^ 63) zs → signed_row (words (row_text Space zs)) ≡ Some zs

-- and where they are 0 or more and of 32 bits, the reader of documents reads the row
abbrev pub RowsReadAgain : Type 0
RowsReadAgain = (ns : List ℕ) → AllByRecursion (λ n. n ≤ 4294967295) ns → row_onto [] (words (row_text Space (map pos ns))) ≡ Ok ns
