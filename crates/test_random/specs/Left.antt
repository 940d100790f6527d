-- What is seen of a room that was not taken.
use Rattle.std.specs.Prelude.{◌≡◌, ℕ, ◌<◌, List, length, ℤ, pos, Some, slice_index_or}
use Rattle.phase_input.specs.Input.{verdict, number}
use Rattle.phase_input.specs.declared.refusal.Refusal.{Refusal}
use Rattle.test_random.specs.Drawn.{input_drawn}
use Rattle.test_random.specs.declared.trial.Trial.{Trial}
use Rattle.unwrap.specs.declared.Done.{Done}
use Rattle.unwrap.specs.declared.Done.TheVariants.{Refused}

-- turned away for its length, and left with a mark at each place
pub record LeftAlone (done : Done) (room : List ℤ) (mark : ℤ) : Type 0 where
  pub why : done ≡ Refused 4
  pub kept : (k : ℕ) → k < length room → slice_index_or room k (pos 0) ≡ mark

-- what the trial lends is refused for a room of so many numbers
abbrev pub RefusesRoom : Trial → (long : ℕ) → Type 0
RefusesRoom t long = (why : Refusal) × (verdict (input_drawn t long) ≡ Some why) × (number why ≡ 4)
