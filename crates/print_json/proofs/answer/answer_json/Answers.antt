use Rattle.std.proofs.Common.{◌≡◌, ◌∷◌, [], ◌++◌, false, string_bytes, ap, ◌∙◌}
use Rattle.phase_field.specs.Model.{field_of}
use Rattle.serde_json.specs.View.{view}
use Rattle.serde_json.specs.Written.{compact_text, has_float}
use Rattle.print_json.proofs.Whole.{answer_whole}
use Rattle.print_json.proofs.answer.answer_json.Goals as goal

pub returns : goal.returns
returns c =
    let r = c.args.report.now in
    let whole : has_float (view c.in_ok-answer_value.field-0) ≡ false = ap has_float c.in_ok-answer_value.ensures ∙ answer_whole (field_of r.field.now) r.heights.now r.cost r.squares in
    let text : string_bytes c.in_ok-text.text ≡ compact_text _ = c.in_ok-text.ensures.text whole ∙ ap compact_text c.in_ok-answer_value.ensures in
    c.in_ok-writeln.ensures.bytes ∙ ap (λ x. x ++ (10 ∷ [])) text
