use Rattle.std.proofs.Common.{◌≡◌, ◌*◌, ◌++◌, drop, string_bytes}
use Rattle.print.specs.Rows.{rows_text}
use Rattle.print.proofs.rows.push_rows.Given as goal

abbrev pub invariant-loop-y : goal.invariant-loop-y
invariant-loop-y l = record {
  printed : string_bytes l.out ≡ string_bytes l.initial.out ++ rows_text l.parting l.wide l._y l.list;
  left : l.rest ≡ drop (l._y * l.wide) l.list;
}
