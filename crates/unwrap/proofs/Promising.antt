-- What follows of turns that cost least.
use Rattle.std.proofs.Common.{◌≡◌, ℕ, Some, None, Option, arith}
use Rattle.std.specs.Prelude.{IfNone}
use Rattle.phase_field.specs.Field.{Field, Fit, Turns}
use Rattle.phase_cost.specs.Cost.{cost, Least, AllComeBack}
use Rattle.phase_cost.proofs.Integral.{costs_nothing, found_again}
use Rattle.unwrap.specs.Promise.{FindsAgain}

pub costs_none : (f : Field) (t : Turns) (told : ℕ) → Fit f → Least f t → told ≡ cost f t → AllComeBack f → told ≡ 0
costs_none f t told fit least is back =
    let free = (costs_nothing f fit).0 back in
    omega (arith, free.1, least free.0, is)

pub finds : (f : Field) (t : Turns) → Fit f → Least f t → FindsAgain f t
finds f t fit least = λ priced u smooth. found_again f u t fit priced smooth least

-- what holds at all holds where nothing is refused
pub if_none : {A : Type 0} (o : Option A) (P : Type 0) → P → IfNone o P
if_none None P p = p
if_none (Some x) P p = tt
