use lib.Utf8.{encode}
use Rattle.std.proofs.Common.{pred, string_bytes, ap, ◌∙◌, arith}
use Rattle.phase_field.specs.Model.{field_of}
use Rattle.print.proofs.Squares.{row_ends, row_step, encode-sign}
use Rattle.print.proofs.signs.push_sign_row.Goals as goal

pub loop-x-preserved : goal.loop-x-preserved
loop-x-preserved c =
    row_step (string_bytes c.loop-x.out) (string_bytes c.push.new.self) _ _ (field_of c.args.field.now) c.args.y c.loop-x.x (pred c.args.field.now.wide) (omega (arith, c.loop-x-test.true))
    (ap encode c.sign_at.ensures ∙ encode-sign _) c.in_ok-push.ensures.bytes c.loop-x.invariant

pub returns : goal.returns
returns c =
    row_ends (string_bytes c.loop-x.out) _ (field_of c.args.field.now) c.args.y c.loop-x.x _ (omega (arith, c.loop-x-test.false)) c.loop-x.invariant
