use Rattle.std.proofs.Common.{pred, string_bytes, arith}
use Rattle.phase_field.specs.Model.{field_of}
use Rattle.print.proofs.Squares.{rows_end, rows_step}
use Rattle.print.proofs.signs.push_signs.Goals as goal

pub loop-y-preserved : goal.loop-y-preserved
loop-y-preserved c =
    rows_step (string_bytes c.loop-y.out) (string_bytes c.push_sign_row.new.out) (string_bytes c.writeln.new.self) _ (field_of c.args.field.now) c.loop-y.y (pred c.args.field.now.high) (omega (arith, c.loop-y-test.true))
    c.in_ok-push_sign_row.ensures c.in_ok-writeln.ensures.bytes c.loop-y.invariant

pub returns : goal.returns
returns c =
    rows_end (string_bytes c.loop-y.out) _ (field_of c.args.field.now) c.loop-y.y _ (omega (arith, c.loop-y-test.false)) c.loop-y.invariant
