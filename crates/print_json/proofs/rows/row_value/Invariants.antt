use Rattle.std.proofs.Common.{◌≡◌, map, take, vec_items}
use Rattle.serde_json.specs.View.{view}
use Rattle.print_json.specs.Rows.{number_data}
use Rattle.print_json.proofs.rows.row_value.Given as goal

abbrev pub invariant-loop-z : goal.invariant-loop-z
invariant-loop-z l = map view (vec_items l.values) ≡ map number_data (take l.z-index l.row)
