-- Turns from -2 to 2, as they are tried.
use Rattle.std.specs.Prelude.{◌≡◌, ℕ, zero, suc, ◌+◌, ◌*◌, ◌/◌, ◌%◌, ◌<◌, ◌≤◌, List, length, ℤ, pos, ◌-ℤ◌, slice_index_or, unsigned_abs}
use Rattle.phase_field.specs.Field.{Field, Turns, turns_in}
use Rattle.phase_cost.specs.Cost.{cost}
use Rattle.phase_turns.specs.Cost.{RoomFits}

-- from -2 to 2 at each place of the field
abbrev pub Tried : Field → Turns → Type 0
Tried f t = (x y : ℕ) → x < f.wide → y < f.high → unsigned_abs (t x y) ≤ 2

-- none of them cost less, and some cost as much
pub record LeastTried (f : Field) (c : ℕ) : Type 0 where
  pub least : (t : Turns) → Tried f t → c ≤ cost f t
  pub some : (t : Turns) × Tried f t × (cost f t ≡ c)

-- the turns in a room cost what was answered, none that are tried cost less, and the first of them is 0
pub record Agrees (f : Field) (room : List ℤ) (answered : ℕ) : Type 0 where
  pub few : f.wide * f.high ≤ 6
  pub fits : RoomFits f room
  pub some : 1 ≤ length room
  pub first : slice_index_or room 0 (pos 0) ≡ pos 0
  pub costs : answered ≡ cost f (turns_in f.wide room)
  pub least : LeastTried f answered

-- Turns by a code in base 5: the digit for each place, the lowest for the first, is 2 more than its turns.
unfoldable pub turns_at : (code place : ℕ) → ℤ
turns_at code zero = pos (code % 5) -ℤ pos 2
turns_at code (suc p) = turns_at (code / 5) p

abbrev pub turns_of : (wide code : ℕ) → Turns
turns_of w code x y = turns_at code (y * w + x)

-- the least of the first n numbers
pub record LeastOf (g : ℕ → ℕ) (n c : ℕ) : Type 0 where
  pub least : (k : ℕ) → k < n → c ≤ g k
  pub some : (k : ℕ) × (k < n) × (g k ≡ c)
