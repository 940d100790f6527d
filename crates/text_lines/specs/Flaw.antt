-- Why a line can't be read.
use Rattle.std.specs.Prelude.{◌≡◌, ℕ, Bool, false, if◌then◌else◌, ◌||◌, ◌&&◌, List, [], ◌∷◌, codes, Some, None, Ok, Err, Option, Result, is_some, ◌==◌}
use Rattle.std.specs.List.{list_all}
use Rattle.std.specs.Option.{option_map}
use Rattle.text_words.specs.Numeral.{digit, numeral, capped, largest}
use Rattle.text_lines.specs.declared.flaw.Flaw.{Flaw}
use Rattle.text_lines.specs.declared.flaw.Flaw.TheVariants.{Word, Sign, Fraction, NotOne, NotAlone, SecondTurn, SecondPrice, Width}
use Rattle.text_lines.specs.declared.flaw.Fault.{Fault}
use Rattle.text_lines.specs.declared.flaw.Fault.TheVariants.{Flawed, Memory}

-- a digit, a comma or a point
abbrev pub numeric : ℕ → Bool
numeric b = b == 44 || (b == 46 || is_some (digit b))

-- `+` or `-` first
abbrev pub is_signed : List ℕ → Bool
is_signed [] = false
is_signed (b ∷ bs) = (b == 43 || b == 45) && list_all numeric bs

-- why a word that is no numeral isn't one
abbrev pub flaw_of : List ℕ → Flaw
flaw_of w = if is_signed w then Sign else (if list_all numeric w then Fraction else Word)

abbrev pub or_flaw : {A : Type 0} → Option A → Flaw → Result A Flaw
or_flaw None why = Err why
or_flaw (Some a) why = Ok a

-- the number that a word writes, the largest where it is too large
abbrev pub number_of : List ℕ → Result ℕ Flaw
number_of w = or_flaw (option_map (capped largest) (numeral w)) (flaw_of w)

-- what comes after, where there is something
abbrev pub and_then : {A B : Type 0} → (A → Result B Flaw) → Result A Flaw → Result B Flaw
and_then f (Ok a) = f a
and_then f (Err why) = Err why

abbrev pub mapped : {A B : Type 0} → (A → B) → Result A Flaw → Result B Flaw
mapped f (Ok a) = Ok (f a)
mapped f (Err why) = Err why

-- it can't be read, for that reason, unless there is no memory for it
abbrev pub Stops : {A : Type 0} → Result A Flaw → Fault → Type 0
Stops r (Flawed why) = r ≡ Err why
Stops r Memory = Unit {0}

-- why, in a few words
abbrev pub reason_text : Flaw → List ℕ
reason_text Word = codes "not a number"
reason_text Sign = codes "a number with a sign"
reason_text Fraction = codes "a comma or a point: numbers are whole, and stand between blanks"
reason_text NotOne = codes "not just one number after it"
reason_text NotAlone = codes "something after it"
reason_text SecondTurn = codes "a second turn"
reason_text SecondPrice = codes "a second price"
reason_text Width = codes "a row of another width than those before"
