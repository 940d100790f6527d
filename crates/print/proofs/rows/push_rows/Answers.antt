use Rattle.std.proofs.Common.{string_bytes}
use Rattle.print.proofs.Lines.{rows_none, drop_none, rows_more, rest_more}
use Rattle.print.proofs.rows.push_rows.Goals as goal

pub loop-y-init : goal.loop-y-init
loop-y-init c = record { printed = rows_none c.args.parting (string_bytes c.args.out.now) c.args.wide c.args.list.now; left = drop_none c.args.wide c.args.list.now }

pub loop-y-preserved : goal.loop-y-preserved
loop-y-preserved c = record {
  printed = rows_more c.args.parting _ (string_bytes c.push_row.new.out) (string_bytes c.loop-y.out) (string_bytes c.writeln.new.self) c.args.wide c.loop-y._y c.args.list.now c.loop-y.rest.now c.parted.result.0.now c.loop-y.invariant.printed
      c.loop-y.invariant.left c.parted.ensures.front c.in_ok-push_row.ensures c.in_ok-writeln.ensures.bytes;
  left = rest_more c.args.wide c.loop-y._y c.args.list.now c.loop-y.rest.now c.parted.result.1.now c.loop-y.invariant.left c.parted.ensures.back;
}
