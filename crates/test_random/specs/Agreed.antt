-- What is seen of a field into which turns were put back.
use Rattle.std.specs.Prelude.{◌≡◌, ◌<◌, List, ℤ, None}
use Rattle.phase_field.specs.declared.field.Field.{Field as code}
use Rattle.phase_field.specs.Field.{Turns}
use Rattle.phase_field.specs.Model.{field_of}
use Rattle.phase_input.specs.Input.{field_lent, verdict}
use Rattle.phase_cost.specs.Cost.{cost}
use Rattle.brute_force.specs.Tried.{Agrees}
use Rattle.unwrap.specs.declared.Done.{Done}
use Rattle.unwrap.specs.declared.Done.TheVariants.{Back, Refused}
use Rattle.test_random.specs.declared.trial.Trial.{Trial}
use Rattle.test_random.specs.Drawn.{Lends, input_drawn}

-- something was put back into the field that the trial lends, and trying agrees with it
abbrev pub Agreed : Trial → Done → (room : List ℤ) → Type 0
Agreed t (Back c) room = (f : code) × Lends t f × Agrees (field_of f) room c
Agreed t (Refused n) room = ⊥

-- something was put back, and costs more than nothing
abbrev pub Costs : Done → Type 0
Costs (Back c) = 0 < c
Costs (Refused n) = ⊥

-- of turns that were put back into what the trial lends
pub record AgreesOnce (t : Trial) : Type 0 where
  pub done : Done
  pub room : List ℤ
  pub agreed : Agreed t done room

-- the field that the trial lends is taken, and whatever turns are put back into it cost more than nothing
pub record AllCost (t : Trial) : Type 0 where
  pub taken : verdict (input_drawn t t.places) ≡ None
  pub costs : (turns : Turns) → 0 < cost (field_lent (input_drawn t t.places)) turns
