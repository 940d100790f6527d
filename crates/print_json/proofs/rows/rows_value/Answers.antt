use Rattle.std.proofs.Common.{◌≡◌, ◌∷◌, [], ◌++◌, map, take, vec_items, ap, ◌∙◌, arith}
use Rattle.serde_json.specs.Data.{array}
use Rattle.serde_json.specs.View.{view, items_of}
use Rattle.print_json.specs.Rows.{row_data}
use Rattle.print_json.proofs.Arrays.{pushed, rows_end, rows_next}
use Rattle.print_json.proofs.rows.rows_value.Goals as goal

pub loop-y-preserved : goal.loop-y-preserved
loop-y-preserved c =
    let more : map view (vec_items c.push.new.self) ≡ map view (vec_items c.loop-y.rows) ++ (row_data (take c.args.wide c.loop-y.rest.now) ∷ []) = pushed (vec_items c.push.new.self) (vec_items c.loop-y.rows) c.in_ok-row_value.field-0 _ c.in_ok-push.ensures.items (c.in_ok-row_value.ensures ∙ ap row_data c.parted.ensures.front) in
    rw c.parted.ensures.back (rows_next c.args.wide c.args.high c.loop-y._y (map view (vec_items c.loop-y.rows)) (map view (vec_items c.push.new.self)) _ c.loop-y.rest.now c.loop-y-test.true more c.loop-y.invariant)

pub returns : goal.returns
returns c =
    let all = rows_end c.args.wide c.args.high c.loop-y._y (map view (vec_items c.loop-y.rows)) _ c.loop-y.rest.now (omega arith) c.loop-y.invariant in
    c.from.ensures ∙ ap (λ x. array (items_of x)) all
