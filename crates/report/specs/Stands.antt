-- Where in a text it stands that there is no answer.
use Rattle.std.specs.Prelude.{ℕ, ◌+◌, ◌*◌, List, Some, None, Ok, Err, Option, Result}
use Rattle.phase_input.specs.declared.refusal.Dimension.TheVariants.{Wide, High, Turn}
use Rattle.phase_input.specs.declared.refusal.Refusal.{Refusal}
use Rattle.phase_input.specs.declared.refusal.Refusal.TheVariants.{Size, Seen, Price, Room, Text}
use Rattle.text_words.specs.Numeral.{capped, largest}
use Rattle.text_words.specs.Pieces.{lines, unmarked}
use Rattle.text_locate.specs.Word.{cell_from, said_from, flawed}
use Rattle.text_locate.specs.declared.word.Keyword.TheVariants as keyword
use Rattle.text_locate.specs.declared.word.WordAt.{WordAt}
use Rattle.text.specs.Document.{Contents, reading}
use Rattle.text.specs.Document as document
use Rattle.text.specs.Picture.{first_picture}
use Rattle.report.specs.declared.unanswered.Unanswered.{Unanswered}
use Rattle.report.specs.declared.unanswered.Unanswered.TheVariants.{Unreadable, Refused, Memory}

abbrev pub cell_of : List ℕ → ℕ → Option WordAt
cell_of text n = cell_from 0 (lines (unmarked text)) n

abbrev pub price_by : List ℕ → ℕ → Option WordAt → Option WordAt
price_by text n (Some at) = Some at
price_by text n None = cell_of text n

-- the one price for all steps, or else that in a row below what was seen
abbrev pub price_at : List ℕ → (places p : ℕ) → Option WordAt
price_at text n p = price_by text (capped largest (n + p)) (said_from keyword.Price 0 (lines (unmarked text)))

-- the first number that is one too many to the right, or down; the turn; what was seen at a place; a price
abbrev pub refused_at : List ℕ → (wide high : ℕ) → Refusal → Option WordAt
refused_at text w h (Size Wide) = cell_of text 64
refused_at text w h (Size High) = cell_of text (capped largest (w * 64))
refused_at text w h (Size Turn) = said_from keyword.Turn 0 (lines (unmarked text))
refused_at text w h (Seen p) = cell_of text p
refused_at text w h (Price p) = price_at text (capped largest (w * h)) p
refused_at text w h (Room n) = None
refused_at text w h (Text n) = None

abbrev pub refused_in : List ℕ → Refusal → Result Contents document.Unreadable → Option WordAt
refused_in text why (Ok d) = refused_at text (first_picture d).wide (first_picture d).high why
refused_in text why (Err e) = None

abbrev pub stands : List ℕ → Unanswered → Option WordAt
stands text (Unreadable n why) = Some (flawed text n why)
stands text (Refused why) = refused_in text why (reading text)
stands text Memory = None
