-- What is lent, when it is taken as a field, and by which number it is refused.
use Rattle.std.specs.Prelude.{ℕ, zero, suc, ◌+◌, ◌*◌, Bool, ◌&&◌, if◌then◌else◌, List, [], ◌∷◌, Some, None, Option, ◌==◌, nat_lt, nat_le}
use Rattle.std.specs.Option.{option_map, option_or}
use Rattle.phase_field.specs.Field.{Field, field_in}
use Rattle.phase_input.specs.declared.refusal.Dimension.{Dimension}
use Rattle.phase_input.specs.declared.refusal.Dimension.TheVariants.{Wide, High, Turn}
use Rattle.phase_input.specs.declared.refusal.Refusal.{Refusal}
use Rattle.phase_input.specs.declared.refusal.Refusal.TheVariants.{Size, Seen, Price, Room, Text}

-- a field as it is lent, its lists row by row from the upper left, and how many numbers the room for its turns has
pub record Input : Type 0 where
  pub wide : ℕ
  pub high : ℕ
  pub turn : ℕ
  pub seen : List ℕ
  pub right : List ℕ
  pub below : List ℕ
  pub room : ℕ

abbrev pub input : (wide high turn : ℕ) → (seen right below : List ℕ) → (room : ℕ) → Input
input w h t ss rs bs n = record { wide = w; high = h; turn = t; seen = ss; right = rs; below = bs; room = n }

abbrev pub field_lent : Input → Field
field_lent i = field_in i.wide i.high i.turn i.seen i.right i.below

abbrev pub within : (low high n : ℕ) → Bool
within low high n = nat_le low n && nat_le n high

-- which of the three isn't right
abbrev pub wrong_size : (wide high turn : ℕ) → Option Dimension
wrong_size w h t =
    if within 1 64 w then (if within 1 64 h then (if within 2 65536 t then None else Some Turn) else Some High) else Some Wide

-- The first place at which a list isn't one number below the bound for each of so many places: where a number is too
-- large, where the first one lacks, or where the first one stands that has no place.
unfoldable pub first_wrong : (places bound : ℕ) → List ℕ → Option ℕ
first_wrong zero bound [] = None
first_wrong zero bound (x ∷ xs) = Some 0
first_wrong (suc n) bound [] = Some 0
first_wrong (suc n) bound (x ∷ xs) = if nat_lt x bound then option_map suc (first_wrong n bound xs) else Some 0

-- Why it is refused: the first reason that applies, in this order. A price is 1,000 at most, and the places of prices down
-- come after those of prices to the right.
abbrev pub verdict : Input → Option Refusal
verdict i =
    let n = i.wide * i.high in
    option_or (option_map Size (wrong_size i.wide i.high i.turn))
    (option_or (option_map Seen (first_wrong n i.turn i.seen))
    (option_or (option_map Price (first_wrong n 1001 i.right))
    (option_or (option_map (λ p. Price (n + p)) (first_wrong n 1001 i.below))
    (if i.room == n then None else Some (Room i.room)))))

-- the number of a reason
abbrev pub number : Refusal → ℕ
number (Size d) = 1
number (Seen p) = 2
number (Price p) = 3
number (Room n) = 4
number (Text l) = 5
