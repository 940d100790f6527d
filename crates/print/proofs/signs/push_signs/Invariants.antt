use Rattle.std.proofs.Common.{◌≡◌, pred, ◌-◌, ◌++◌, string_bytes}
use Rattle.phase_field.specs.Model.{field_of}
use Rattle.print.specs.Signs.{sign_rows}
use Rattle.print.proofs.signs.push_signs.Given as goal

abbrev pub invariant-loop-y : goal.invariant-loop-y
invariant-loop-y l = string_bytes l.out ++ sign_rows (field_of l.field) l.y (pred l.field.high - l.y) ≡ string_bytes l.initial.out ++ sign_rows (field_of l.field) 0 (pred l.field.high)
