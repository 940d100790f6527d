-- Lines and words by number, counted from 0.
use Rattle.std.specs.Prelude.{ℕ, suc, ◌-◌, Bool, true, false, if◌then◌else◌, ◌||◌, List, [], ◌∷◌, length, Some, None, Ok, Err, codes, Option, Result, is_none, nat_lt}
use Rattle.std.specs.List.{slice_get}
use Rattle.std.specs.Option.{option_map, option_and_then, unwrap_or}
use Rattle.std.specs.Str.{bytes_eq}
use Rattle.text_words.specs.Numeral.{numeral}
use Rattle.text_words.specs.Pieces.{lines, unmarked, words}
use Rattle.text_lines.specs.declared.flaw.Flaw.{Flaw}
use Rattle.text_lines.specs.declared.flaw.Flaw.TheVariants as flaw
use Rattle.text_lines.specs.declared.kind.Kind.{Kind}
use Rattle.text_lines.specs.declared.kind.Kind.TheVariants.{Nothing, Turn, Price, Squares, Row}
use Rattle.text_lines.specs.Kind.{kind_of}
use Rattle.text_locate.specs.declared.word.Keyword.{Keyword}
use Rattle.text_locate.specs.declared.word.Keyword.TheVariants as keyword
use Rattle.text_locate.specs.declared.word.WordAt.{WordAt}

abbrev pub cells_by : ℕ → Result Kind Flaw → ℕ
cells_by n (Ok Row) = n
cells_by n (Ok Nothing) = 0
cells_by n (Ok (Turn t)) = 0
cells_by n (Ok (Price p)) = 0
cells_by n (Ok Squares) = 0
cells_by n (Err why) = 0

-- how many numbers a line of these words has if it is a row
abbrev pub cells_of : List (List ℕ) → ℕ
cells_of ws = cells_by (length ws) (kind_of ws)

-- the n-th number of the rows among these lines, the next of which is line i
unfoldable pub cell_from : ℕ → List (List ℕ) → ℕ → Option WordAt
cell_from i [] n = None
cell_from i (l ∷ ls) n =
    if nat_lt n (cells_of (words l)) then Some (record { line = i; word = n }) else cell_from (suc i) ls (n - cells_of (words l))

-- no number, where one should stand: at the beginning of a line `turn` and `price` may stand
abbrev pub is_wrong : List ℕ → ℕ → Bool
is_wrong w k = if bytes_eq w (codes "turn") || bytes_eq w (codes "price") then nat_lt 0 k else is_none (numeral w)

-- which of these words is the first that is wrong, the next being word k; 0 where there is none
unfoldable pub wrong_from : ℕ → List (List ℕ) → ℕ
wrong_from k [] = 0
wrong_from k (w ∷ ws) = if is_wrong w k then k else wrong_from (suc k) ws

abbrev pub line_of : List ℕ → ℕ → Option (List ℕ)
line_of text n = slice_get (lines (unmarked text)) n

abbrev pub wrong_in : List ℕ → ℕ → ℕ
wrong_in text n = unwrap_or (option_map (λ l. wrong_from 0 (words l)) (line_of text n)) 0

-- the word that is no number; for what is wrong with the whole line its first word
abbrev pub word_by : ℕ → Flaw → ℕ
word_by k flaw.Word = k
word_by k flaw.Sign = k
word_by k flaw.Fraction = k
word_by k flaw.NotOne = 0
word_by k flaw.NotAlone = 0
word_by k flaw.SecondTurn = 0
word_by k flaw.SecondPrice = 0
word_by k flaw.Width = 0

abbrev pub flawed : List ℕ → ℕ → Flaw → WordAt
flawed text n why = record { line = n; word = word_by (wrong_in text n) why }

abbrev pub said_by : Keyword → Result Kind Flaw → Bool
said_by keyword.Turn (Ok Nothing) = false
said_by keyword.Turn (Ok (Turn t)) = true
said_by keyword.Turn (Ok (Price p)) = false
said_by keyword.Turn (Ok Squares) = false
said_by keyword.Turn (Ok Row) = false
said_by keyword.Turn (Err why) = false
said_by keyword.Price (Ok Nothing) = false
said_by keyword.Price (Ok (Turn t)) = false
said_by keyword.Price (Ok (Price p)) = true
said_by keyword.Price (Ok Squares) = false
said_by keyword.Price (Ok Row) = false
said_by keyword.Price (Err why) = false

abbrev pub is_said : Keyword → List (List ℕ) → Bool
is_said k ws = said_by k (kind_of ws)

-- the number after the first `turn` or `price` among these lines, the next of which is line i
unfoldable pub said_from : Keyword → ℕ → List (List ℕ) → Option WordAt
said_from k i [] = None
said_from k i (l ∷ ls) = if is_said k (words l) then Some (record { line = i; word = 1 }) else said_from k (suc i) ls

abbrev pub word_at : List ℕ → WordAt → Option (List ℕ)
word_at text at = option_and_then (λ l. slice_get (words l) at.word) (line_of text at.line)
