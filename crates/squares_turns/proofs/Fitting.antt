-- A field that is lent is fit.
use Rattle.std.proofs.Common.{◌+◌, ◌*◌}
use Rattle.phase_field.specs.Field.{Fit}
use Rattle.squares_turns.specs.Lists.{field_lent}
use Rattle.squares_turns.specs.declared.lists.Lists.{Lists}

pub lent_fit : (l : Lists) → Fit (field_lent l)
lent_fit l = record {
  turn_2 = l.turn_some;
  wide_1 = l.wide_some;
  high_1 = l.high_some;
  small = λ x y j k. l.seen_fits (y * l.wide + x);
}
