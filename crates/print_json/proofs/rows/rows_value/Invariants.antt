use Rattle.std.proofs.Common.{◌≡◌, ◌++◌, ◌-◌, map, vec_items}
use Rattle.serde_json.specs.View.{view}
use Rattle.print_json.specs.Rows.{row_list}
use Rattle.print_json.proofs.rows.rows_value.Given as goal

abbrev pub invariant-loop-y : goal.invariant-loop-y
invariant-loop-y l = map view (vec_items l.rows) ++ row_list l.wide (l.high - l._y) l.rest ≡ row_list l.wide l.high l.list
