-- What is promised of turns that are put back, beside what `Field` of phase_field says of fields, `Input` of phase_input of
-- what is refused, and `Cost` of phase_cost of what turns cost.
use Rattle.std.specs.Prelude.{ℕ, ◌≤◌, List, ℤ, pos, slice_index_or, unsigned_abs}
use Rattle.phase_field.specs.Field.{Field, Turns}
use Rattle.phase_cost.specs.Cost.{AllPriced, IsSmooth, IsFound}

-- where every step has a price of at least 1, smooth heights are found as they are, but for whole turns over all
abbrev pub FindsAgain : Field → Turns → Type 0
FindsAgain f u = AllPriced f → (t : Turns) → IsSmooth f t → IsFound f t u

-- no place has more than so many turns, either way
abbrev pub FewTurns : ℕ → List ℤ → Type 0
FewTurns most room = (k : ℕ) → unsigned_abs (slice_index_or room k (pos 0)) ≤ most
