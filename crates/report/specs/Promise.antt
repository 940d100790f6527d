-- What is promised of the text that a document is answered with.
use Rattle.std.specs.Prelude.{◌≡◌, ℕ, ◌*◌, Bool, List, map, length, ℤ, pos, Some, Ok, Err, Option, Result, slice_index_or}
use Rattle.std.specs.Option.{option_map}
use Rattle.report.specs.declared.Form.{Form}
use Rattle.report.specs.declared.Form.TheVariants.{Rows, Json, Csv, Picture}
use Rattle.report.specs.declared.View.{View}
use Rattle.report.specs.declared.View.TheVariants.{Heights, Rings}
use Rattle.phase_field.specs.Field.{Field, turns_in}
use Rattle.phase_input.specs.Input.{Input, field_lent, verdict}
use Rattle.phase_cost.specs.Cost.{cost, Least}
use Rattle.text.specs.Document.{Contents}
use Rattle.text.specs.Document as document
use Rattle.text.specs.Picture.{first_picture}
use Rattle.print.specs.Answer.{answer_text}
use Rattle.print.specs.Heights.{heights_of}
use Rattle.print.specs.Rows.{rows_text}
use Rattle.print.specs.declared.rows.Parting.TheVariants.{Comma}
use Rattle.print_json.specs.Answer.{answer_data}
use Rattle.print_json.specs.Line.{json_line}
use Rattle.pictures.specs.Picture.{picture_text}
use Rattle.report.specs.declared.unanswered.Unanswered.{Unanswered}
use Rattle.report.specs.declared.unanswered.Unanswered.TheVariants.{Unreadable, Refused}

-- what the picture of a document lends, with a room of a number for each that was seen
abbrev pub input_said : Contents → Input
input_said d =
    let p = first_picture d in
    record {
      wide = p.wide;
      high = p.high;
      turn = d.turn;
      seen = p.seen;
      right = p.right;
      below = p.below;
      room = length p.seen;
    }

-- why a document is refused
abbrev pub refused_of : Contents → Option Unanswered
refused_of d = option_map Refused (verdict (input_said d))

-- why a text has no answer: a line that can't be read, or what it says can't be taken
abbrev pub unanswered_of : Result Contents document.Unreadable → Option Unanswered
unanswered_of (Ok d) = refused_of d
unanswered_of (Err e) = Some (Unreadable e.line e.why)

-- the text of heights and of what their turns cost
abbrev pub form_text : Form → Field →
    (heights : List ℤ) → (cost : ℕ) → (squares : Bool) → List ℕ
form_text Rows f zs n squares = answer_text f zs n squares
form_text Json f zs n squares = json_line (answer_data f zs n squares)
form_text Csv f zs n squares = rows_text Comma f.wide f.high zs
form_text Picture f zs n squares = picture_text f.wide f.high zs

-- the text is that of turns for all places that cost least, 0 for the first
pub record Solved (form : Form) (f : Field)
    (seen : List ℕ) (squares : Bool) (text : List ℕ) : Type 0 where
  pub turns : List ℤ
  pub places : length turns ≡ f.wide * f.high
  pub first : slice_index_or turns 0 (pos 0) ≡ pos 0
  pub least : Least f (turns_in f.wide turns)
  pub printed : text ≡
      form_text form f (heights_of f.turn seen turns) (cost f (turns_in f.wide turns)) squares

-- heights, or the rings that were seen
abbrev pub Views : View → Field → (seen : List ℕ) → (squares : Bool) → (text : List ℕ) → Type 0
Views (Heights form) f seen squares text = Solved form f seen squares text
Views Rings f seen squares text = text ≡ picture_text f.wide f.high (map pos seen)

abbrev pub Shows : View → Contents → (text : List ℕ) → Type 0
Shows view d text = Views view (field_lent (input_said d)) (input_said d).seen d.squares text
