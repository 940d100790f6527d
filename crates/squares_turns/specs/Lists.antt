-- A field by its lists.
use Rattle.phase_field.specs.Field.{Field, field_in}
use Rattle.squares_turns.specs.declared.lists.Lists.{Lists}

abbrev pub field_lent : Lists → Field
field_lent l = field_in l.wide l.high l.turn l.seen.now l.right.now l.below.now
