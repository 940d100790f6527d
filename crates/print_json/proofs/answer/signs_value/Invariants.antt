use Rattle.std.proofs.Common.{◌≡◌, ◌++◌, ◌-◌, map, pred, vec_items}
use Rattle.phase_field.specs.Model.{field_of}
use Rattle.serde_json.specs.View.{view}
use Rattle.print_json.specs.Answer.{sign_list}
use Rattle.print_json.proofs.answer.signs_value.Given as goal

abbrev pub invariant-loop-y : goal.invariant-loop-y
invariant-loop-y l = map view (vec_items l.rows) ++ sign_list (field_of l.field) l.y (pred l.field.high - l.y) ≡ sign_list (field_of l.field) 0 (pred l.field.high)
