-- What has been read of a document, line by line.
use Rattle.std.specs.Prelude.{◌≡◌, ℕ, Bool, true, false, List, [], map, Some, None, Ok, Err, vec_items, Option, Result}
use Rattle.text_words.specs.Numeral.{capped, largest_entry}
use Rattle.text_words.specs.Pieces.{words}
use Rattle.text.specs.declared.draft.Draft.{Draft}
use Rattle.text_lines.specs.declared.flaw.Flaw.{Flaw}
use Rattle.text_lines.specs.declared.flaw.Flaw.TheVariants.{SecondTurn}
use Rattle.text_lines.specs.declared.flaw.Fault.{Fault}
use Rattle.text_lines.specs.declared.kind.Kind.{Kind}
use Rattle.text_lines.specs.declared.kind.Kind.TheVariants.{Nothing, Turn, Price, Squares, Row}
use Rattle.text_lines.specs.Flaw.{and_then, mapped, Stops}
use Rattle.text_lines.specs.Kind.{kind_of}
use Rattle.text.specs.Section.{Block, block, empty_picture, with_row, with_price}

-- the turn where there was one, whether the squares are asked for, the sections that have ended, and the one that rows go to
pub record Notes : Type 0 where
  pub turn : Option ℕ
  pub squares : Bool
  pub before : List Block
  pub rows : Block

abbrev pub blank : Notes
blank = record { turn = None; squares = false; before = []; rows = empty_picture }

abbrev pub notes : Draft → Notes
notes d = record { turn = d.turn; squares = d.squares; before = map block (vec_items d.before); rows = block d.rows }

-- nothing is there, or else the text says it twice
abbrev pub unless : {A B : Type 0} → Option A → Flaw → B → Result B Flaw
unless None why b = Ok b
unless (Some a) why b = Err why

abbrev pub with_turn : Notes → ℕ → Result Notes Flaw
with_turn d n = unless d.turn SecondTurn (record d { turn = Some n })

abbrev pub with_rows : Notes → Block → Notes
with_rows d b = record d { rows = b }

abbrev pub with_price_of : Notes → ℕ → Result Notes Flaw
with_price_of d n = mapped (with_rows d) (with_price d.rows (capped largest_entry n))

abbrev pub with_row_of : Notes → List (List ℕ) → Result Notes Flaw
with_row_of d ws = mapped (with_rows d) (with_row d.rows ws)

abbrev pub step_by : Notes → List (List ℕ) → Kind → Result Notes Flaw
step_by d ws Nothing = Ok d
step_by d ws (Turn n) = with_turn d n
step_by d ws (Price n) = with_price_of d n
step_by d ws Squares = Ok (record d { squares = true })
step_by d ws Row = with_row_of d ws

-- one line more, or why it can't be read
abbrev pub step : Notes → List ℕ → Result Notes Flaw
step d line = and_then (step_by d (words line)) (kind_of (words line))

-- the draft is what is there, or it can't be read, unless there is no memory for it
abbrev pub Drafted : Result Notes Flaw → Result Draft Fault → Type 0
Drafted r (Ok d) = r ≡ Ok (notes d)
Drafted r (Err f) = Stops r f
