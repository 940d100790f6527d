-- What a text is answered with, from what is promised of its parts.
use Rattle.std.proofs.Common.{◌≡◌, ℕ, ◌*◌, length, Bool, List, ℤ, pos, Ok, Err, IfOk, Result, get_or, ap, ◌∙◌, sym}
use Rattle.phase_field.specs.Field.{Field, turns_in}
use Rattle.phase_cost.specs.Cost.{cost, Least}
use Rattle.print.specs.Heights.{heights_of}
use Rattle.report.specs.declared.Form.{Form}
use Rattle.report.specs.Promise.{form_text, Solved}

pub if_ok_map : {A E : Type 0} (P Q : A → Type 0) (r : Result A E) → ((a : A) → P a → Q a) → IfOk r P → IfOk r Q
if_ok_map P Q (Ok a) f p = f a p
if_ok_map P Q (Err e) f p = p

pub solved : (form : Form) (f : Field) (seen : List ℕ) (squares : Bool) (text : List ℕ) (room turns heights : List ℤ) (told : ℕ) → length room ≡ f.wide * f.high → room ≡ turns →
    told ≡ cost f (turns_in f.wide room) → get_or room 0 (pos 0) ≡ pos 0 → Least f (turns_in f.wide room) → heights ≡ heights_of f.turn seen turns →
    text ≡ form_text form f heights told squares → Solved form f seen squares text
solved form f seen squares text room turns heights told long e c first least h p = record {
  turns = room;
  places = long;
  first = first;
  least = least;
  printed = p ∙ ap (λ (n : ℕ). form_text form f heights n squares) c ∙ ap (λ (zs : List ℤ). form_text form f zs (cost f (turns_in f.wide room)) squares) (h ∙ ap (heights_of f.turn seen) (sym e));
}
