-- Documents: what a text says.
use Rattle.std.specs.Prelude.{◌≡◌, ℕ, suc, Bool, List, [], ◌∷◌, ◌++◌, map, Ok, Err, vec_items, Result}
use Rattle.std.specs.Option.{unwrap_or}
use Rattle.text.specs.declared.document.Document.{Document}
use Rattle.text.specs.declared.document.Unread.{Unread}
use Rattle.text.specs.declared.document.Unread.TheVariants.{Flawed, Memory}
use Rattle.text_lines.specs.declared.flaw.Flaw.{Flaw}
use Rattle.text_lines.specs.declared.flaw.Fault.{Fault}
use Rattle.text_lines.specs.declared.flaw.Fault.TheVariants as fault
use Rattle.text.specs.Draft.{Notes, blank, step}
use Rattle.text.specs.Section.{Block, block}
use Rattle.text_words.specs.Pieces.{lines, unmarked}

pub record Contents : Type 0 where
  pub turn : ℕ
  pub squares : Bool
  pub sections : List Block

abbrev pub contents : Document → Contents
contents d = record { turn = d.turn; squares = d.squares; sections = map block (vec_items d.sections) }

-- what the lines make a document of; a text that says no turn has 0
abbrev pub finished : Notes → Contents
finished d = record { turn = unwrap_or d.turn 0; squares = d.squares; sections = d.before ++ (d.rows ∷ []) }

-- a line that can't be read, and why
pub record Unreadable : Type 0 where
  pub line : ℕ
  pub why : Flaw

abbrev pub or_line : {A : Type 0} → Result A Flaw → ℕ → (A → Result Contents Unreadable) → Result Contents Unreadable
or_line (Err why) n f = Err (record { line = n; why = why })
or_line (Ok d) n f = f d

-- line by line, the next of which is line n
unfoldable pub read_from : ℕ → Notes → List (List ℕ) → Result Contents Unreadable
read_from n d [] = Ok (finished d)
read_from n d (l ∷ ls) = or_line (step d l) n (λ e. read_from (suc n) e ls)

-- what a text says, or the first line that can't be read; lines count from 0
abbrev pub reading : List ℕ → Result Contents Unreadable
reading bs = read_from 0 blank (lines (unmarked bs))

-- the answer is that, unless there is no memory for it
abbrev pub Reads : Result Contents Unreadable → Result Document Unread → Type 0
Reads r (Ok d) = r ≡ Ok (contents d)
Reads r (Err (Flawed n why)) = r ≡ Err (record { line = n; why = why })
Reads r (Err Memory) = Unit {0}

-- a line at which reading stops
abbrev pub stopped_at : Fault → ℕ → Unread
stopped_at (fault.Flawed why) n = Flawed n why
stopped_at fault.Memory n = Memory
