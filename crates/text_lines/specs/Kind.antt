-- What a line of a text says.
use Rattle.std.specs.Prelude.{ℕ, Bool, false, if◌then◌else◌, List, [], ◌∷◌, Ok, Err, codes, Result, ◌==◌}
use Rattle.std.specs.Str.{bytes_eq}
use Rattle.text_lines.specs.declared.flaw.Flaw.{Flaw}
use Rattle.text_lines.specs.declared.flaw.Flaw.TheVariants.{NotOne, NotAlone}
use Rattle.text_lines.specs.declared.kind.Kind.{Kind}
use Rattle.text_lines.specs.declared.kind.Kind.TheVariants.{Nothing, Turn, Price, Squares, Row}
use Rattle.text_lines.specs.Flaw.{number_of, mapped}

-- `#` is 35
abbrev pub comment : List ℕ → Bool
comment [] = false
comment (b ∷ bs) = b == 35

-- one number and no other word
abbrev pub only_number : List (List ℕ) → Result ℕ Flaw
only_number [] = Err NotOne
only_number (w ∷ []) = number_of w
only_number (w ∷ v ∷ ws) = Err NotOne

-- no other word
abbrev pub squares_alone : List (List ℕ) → Result Kind Flaw
squares_alone [] = Ok Squares
squares_alone (w ∷ ws) = Err NotAlone

-- what a line of these words says, or why it can't be read
abbrev pub kind_of : List (List ℕ) → Result Kind Flaw
kind_of [] = Ok Nothing
kind_of (w ∷ ws) =
    if comment w then Ok Nothing
    else (if bytes_eq w (codes "turn") then mapped Turn (only_number ws)
    else (if bytes_eq w (codes "price") then mapped Price (only_number ws)
    else (if bytes_eq w (codes "squares") then squares_alone ws else Ok Row)))
