use Rattle.std.proofs.Common.{◌≡◌, pred, ◌-◌, ◌++◌, string_bytes}
use Rattle.phase_field.specs.Model.{field_of}
use Rattle.print.specs.Signs.{sign_row}
use Rattle.print.proofs.signs.push_sign_row.Given as goal

abbrev pub invariant-loop-x : goal.invariant-loop-x
invariant-loop-x l = string_bytes l.out ++ sign_row (field_of l.field) l.y l.x (pred l.field.wide - l.x) ≡ string_bytes l.initial.out ++ sign_row (field_of l.field) l.y 0 (pred l.field.wide)
