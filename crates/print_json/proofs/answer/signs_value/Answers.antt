use Rattle.std.proofs.Common.{◌≡◌, map, pred, string_bytes, vec_items, ap, ◌∙◌, rules, arith}
use Rattle.phase_field.specs.Model.{field_of}
use Rattle.print.specs.Signs.{sign_row}
use Rattle.serde_json.specs.Data.{string, array}
use Rattle.serde_json.specs.View.{view, items_of}
use Rattle.print_json.proofs.Arrays.{pushed, signs_end, signs_next}
use Rattle.print_json.proofs.answer.signs_value.Goals as goal

pub loop-y-preserved : goal.loop-y-preserved
loop-y-preserved c =
    let f = field_of c.args.field.now in
    let row : string_bytes c.push_sign_row.new.out ≡ sign_row f c.loop-y.y 0 (pred c.args.field.now.wide) = search rules in
    let more = pushed (vec_items c.push.new.self) (vec_items c.loop-y.rows) c.from.result _ c.in_ok-push.ensures.items (c.from.ensures ∙ ap string row) in
    signs_next f (pred c.args.field.now.high) c.loop-y.y (map view (vec_items c.loop-y.rows)) (map view (vec_items c.push.new.self)) _ (omega arith) more c.loop-y.invariant

pub returns : goal.returns
returns c =
    let all = signs_end (field_of c.args.field.now) (pred c.args.field.now.high) c.loop-y.y (map view (vec_items c.loop-y.rows)) _ (omega arith) c.loop-y.invariant in
    c.from-2.ensures ∙ ap (λ x. array (items_of x)) all
