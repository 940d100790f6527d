-- Why what is lent is refused, in words.
use Rattle.std.specs.Prelude.{◌≡◌, ℕ, ◌+◌, ◌*◌, ◌<◌, ◌≤◌, ◌⊎◌, List, length, Some, None, Option, ◌≢◌, slice_index}
use Rattle.phase_input.specs.Input.{Input, wrong_size, verdict}
use Rattle.phase_input.specs.declared.refusal.Refusal.{Refusal}
use Rattle.phase_input.specs.declared.refusal.Refusal.TheVariants.{Size, Seen, Price, Room, Text}

-- a field 1 to 64 wide and high, and a turn of 2 to 65,536
pub record Sized (w h t : ℕ) : Type 0 where
  pub wide_some : 1 ≤ w
  pub wide_fits : w ≤ 64
  pub high_some : 1 ≤ h
  pub high_fits : h ≤ 64
  pub turn_some : 2 ≤ t
  pub turn_fits : t ≤ 65536

-- a list is one number below the bound for each of so many places
pub record RightList (places bound : ℕ) (xs : List ℕ) : Type 0 where
  pub long : length xs ≡ places
  pub small : (k : ℕ) → k < places → slice_index xs k < bound

-- p is the first place at which it isn't
pub record WrongFirst (places bound : ℕ) (xs : List ℕ) (p : ℕ) : Type 0 where
  pub before : (k : ℕ) → k < p → slice_index xs k < bound
  pub placed : p ≤ places
  pub listed : p ≤ length xs
  pub large : p < places → p < length xs → bound ≤ slice_index xs p
  pub surplus : p ≡ places → places < length xs

-- nothing speaks against it
pub record Taken (i : Input) : Type 0 where
  pub sized : Sized i.wide i.high i.turn
  pub seen_fits : RightList (i.wide * i.high) i.turn i.seen
  pub right_fits : RightList (i.wide * i.high) 1001 i.right
  pub below_fits : RightList (i.wide * i.high) 1001 i.below
  pub room_fits : i.room ≡ i.wide * i.high

-- why it is refused, when nothing earlier in the list applies
abbrev pub IsVerdict : Input → Option Refusal → Type 0
IsVerdict i None = Taken i
IsVerdict i (Some (Size d)) = wrong_size i.wide i.high i.turn ≡ Some d
IsVerdict i (Some (Seen p)) = Sized i.wide i.high i.turn × WrongFirst (i.wide * i.high) i.turn i.seen p
IsVerdict i (Some (Price p)) =
    Sized i.wide i.high i.turn
    × RightList (i.wide * i.high) i.turn i.seen
    × (WrongFirst (i.wide * i.high) 1001 i.right p
    ⊎ (RightList (i.wide * i.high) 1001 i.right × ((q : ℕ) × (p ≡ i.wide * i.high + q) × WrongFirst (i.wide * i.high) 1001 i.below q)))
IsVerdict i (Some (Room n)) =
    Sized i.wide i.high i.turn
    × RightList (i.wide * i.high) i.turn i.seen
    × RightList (i.wide * i.high) 1001 i.right
    × RightList (i.wide * i.high) 1001 i.below
    × (n ≡ i.room)
    × (i.room ≢ i.wide * i.high)
IsVerdict i (Some (Text l)) = ⊥

-- what is decided is what the words say, and nothing else is
abbrev pub OneVerdict : Type 0
OneVerdict = (i : Input) → IsVerdict i (verdict i) × ((r : Option Refusal) → IsVerdict i r → r ≡ verdict i)
