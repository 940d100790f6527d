-- What turns in a room cost, as it is added up: in whole turns, step by step.
use Rattle.std.specs.Prelude.{◌≡◌, ℕ, ◌+◌, ◌*◌, ◌^◌, ◌<◌, ◌≤◌, List, length, ℤ, pos, ◌-ℤ◌, slice_index, slice_index_or, unsigned_abs}
use Rattle.sums.specs.Sum.{sum_to}
use Rattle.phase_field.specs.Field.{Field}
use Rattle.phase_turns.specs.Follow.{StepsSmall}

-- by how many whole turns the step between two places differs from what is expected
abbrev pub jump : (expected from to : ℤ) → ℤ
jump e s u = (u -ℤ s) -ℤ e

-- the most turns, either way, of which the cost is told
abbrev pub Most : ℤ → Type 0
Most z = unsigned_abs z ≤ 2 ^ 20

-- a number for each place, none of more turns than the most of which the cost is told
pub record RoomFits (f : Field) (room : List ℤ) : Type 0 where
  pub long : length room ≡ f.wide * f.high
  pub most : (k : ℕ) → k < f.wide * f.high → Most (slice_index_or room k (pos 0))

-- what steps cost whose prices, expected turns, and turns at their ends stand in lists
unfoldable pub line_cost : (prices : List ℕ) → (expected from to : List ℤ) → ℕ
line_cost ps es us vs =
    sum_to (length ps) (λ x. slice_index ps x * unsigned_abs (jump (slice_index_or es x (pos 0)) (slice_index_or us x (pos 0)) (slice_index_or vs x (pos 0))))

-- as long as one another, and small enough to be added up
pub record LineFits (prices : List ℕ) (expected from to : List ℤ) : Type 0 where
  pub few : length prices ≤ 64
  pub expected_len : length expected ≡ length prices
  pub from_len : length from ≡ length prices
  pub to_len : length to ≡ length prices
  pub prices_small : (x : ℕ) → x < length prices → slice_index prices x ≤ 1000
  pub expected_small : StepsSmall expected
  pub from_most : (x : ℕ) → x < length prices → Most (slice_index_or from x (pos 0))
  pub to_most : (x : ℕ) → x < length prices → Most (slice_index_or to x (pos 0))

-- what the steps of one way cost, from the first columns of so many rows of a room so many wide to places so far ahead
unfoldable pub way_cost : (wide rows columns ahead : ℕ) → (prices : List ℕ) → (expected room : List ℤ) → ℕ
way_cost w rows columns ahead ps es ts =
    sum_to rows (λ y. sum_to columns (λ x. slice_index ps (y * w + x) * unsigned_abs (jump (slice_index_or es (y * w + x) (pos 0)) (slice_index_or ts (y * w + x) (pos 0)) (slice_index_or ts ((y * w + ahead) + x) (pos 0)))))

-- its steps lie in the room and the lists, and are small enough to be added up
pub record WayFits (wide rows columns ahead : ℕ) (prices : List ℕ) (expected room : List ℤ) : Type 0 where
  pub few_rows : rows ≤ 64
  pub few_columns : columns ≤ 64
  pub reach : (y : ℕ) → y < rows → (y * wide + ahead) + columns ≤ length room
  pub room_len : length room ≤ 4096
  pub prices_len : length prices ≡ 4096
  pub expected_len : length expected ≡ 4096
  pub prices_small : (k : ℕ) → slice_index prices k ≤ 1000
  pub expected_small : StepsSmall expected
  pub room_most : (k : ℕ) → k < length room → Most (slice_index_or room k (pos 0))
