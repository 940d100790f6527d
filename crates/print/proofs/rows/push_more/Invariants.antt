use Rattle.std.proofs.Common.{◌≡◌, ◌++◌, drop, string_bytes}
use Rattle.print.specs.Rows.{more_text}
use Rattle.print.proofs.rows.push_more.Given as goal

abbrev pub invariant-loop-z : goal.invariant-loop-z
invariant-loop-z l = string_bytes l.out ++ more_text l.parting (drop l.z-index l.row) ≡ string_bytes l.initial.out ++ more_text l.parting l.row
