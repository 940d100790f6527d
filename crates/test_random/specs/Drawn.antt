-- What a drawn field is, and what is said of it.
use Rattle.std.specs.Prelude.{◌≡◌, ℕ, ◌*◌, ◌<◌, ◌≤◌, ◌⊎◌, Bool, false, List, take, Some, codes, nat_lt, slice_index}
use Rattle.phase_field.specs.Model.{field_of}
use Rattle.phase_field.specs.declared.field.Field.{Field as code}
use Rattle.phase_input.specs.Input.{Input, input, field_lent, verdict}
use Rattle.phase_input.specs.declared.refusal.Refusal.{Refusal}
use Rattle.phase_cost.specs.Steps.{turn_steps}
use Rattle.phase_turns.specs.Residue.{residue_count}
use Rattle.test_random.specs.declared.draw.Prices.{Prices}
use Rattle.test_random.specs.declared.draw.Prices.TheVariants.{One, Few, Any, MostlyNone}
use Rattle.test_random.specs.declared.trial.Trial.{Trial}

-- as many places as it is wide and high, what is seen below a turn, and prices up to 1,000
pub record IsDrawn (t : Trial) : Type 0 where
  pub places : t.places ≡ t.wide * t.high
  pub seen : (k : ℕ) → k < 6 → slice_index t.seen k < t.turn
  pub right : (k : ℕ) → k < 6 → slice_index t.right k ≤ 1000
  pub below : (k : ℕ) → k < 6 → slice_index t.below k ≤ 1000

-- what the trial lends, with a room of so many numbers
abbrev pub input_drawn : Trial → ℕ → Input
input_drawn t room = input t.wide t.high t.turn (take t.places t.seen) (take t.places t.right) (take t.places t.below) room

-- a field has what the trial lends
abbrev pub Lends : Trial → code → Type 0
Lends t f = field_of f ≡ field_lent (input_drawn t t.places)

-- what it lends is refused for a reason
abbrev pub IsRefused : Trial → Type 0
IsRefused t = (why : Refusal) × (verdict (input_drawn t t.places) ≡ Some why)

-- whether some square of the field that it lends has a residue, and no where it lends none
abbrev pub SaysResidue : Trial → Bool → Type 0
SaysResidue t r =
    ((f : code) × Lends t f × (r ≡ nat_lt 0 (residue_count (turn_steps (field_of f))))) ⊎ (IsRefused t × (r ≡ false))

-- how a kind of prices is called
abbrev pub name_of : Prices → List ℕ
name_of One = codes "1"
name_of Few = codes "0 to 3"
name_of Any = codes "0 to 1000"
name_of MostlyNone = codes "mostly 0"
