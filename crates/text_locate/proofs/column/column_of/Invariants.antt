use Rattle.std.proofs.Common.{◌≡◌, false, drop}
use Rattle.std.specs.List.{slice_get}
use Rattle.text_locate.specs.Column.{starts}
use Rattle.text_locate.proofs.column.column_of.Given as goal

abbrev pub invariant-loop-column : goal.invariant-loop-column
invariant-loop-column l = slice_get (starts l.column l.inside (drop l.column l.line)) l.left ≡ slice_get (starts 0 false l.line) l.fn.k
