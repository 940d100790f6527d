-- What is lent by reference as the record that it stands for, with a room of so many numbers.
use Rattle.std.specs.Prelude.{ℕ}
use Rattle.phase_input.specs.Input.{Input}
use Rattle.phase_input.specs.declared.input.Input.{Input as code}

abbrev pub input_of : code → ℕ → Input
input_of l n = record { wide = l.wide; high = l.high; turn = l.turn; seen = l.seen.now; right = l.right.now; below = l.below.now; room = n }
