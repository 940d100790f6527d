-- A field that was taken is fit.
use Rattle.std.proofs.Common.{◌+◌, ◌*◌}
use Rattle.phase_field.specs.declared.field.Field.{Field as Held}
use Rattle.phase_field.specs.Model.{field_of}
use Rattle.phase_field.specs.Field.{Fit}

pub field_fit : (f : Held) → Fit (field_of f)
field_fit f = record {
  turn_2 = f.turn_some;
  wide_1 = f.wide_some;
  high_1 = f.high_some;
  small = λ x y k l. f.seen_fits (y * f.wide + x);
}
