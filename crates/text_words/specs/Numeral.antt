-- Numbers written in decimal digits.
use Rattle.std.specs.Option.{option_and_then}
use Rattle.std.specs.Prelude.{ℕ, ◌+◌, ◌-◌, ◌*◌, min, if◌then◌else◌, ◌&&◌, List, [], ◌∷◌, Some, None, Option, nat_le}

abbrev pub digit : ℕ → Option ℕ
digit b = if nat_le 48 b && nat_le b 57 then Some (b - 48) else None

-- `u64::MAX` and `u32::MAX`
abbrev pub largest : ℕ
largest = 18446744073709551615

abbrev pub largest_entry : ℕ
largest_entry = 4294967295

-- the number that digits make after the number so far
unfoldable pub numeral_on : ℕ → List ℕ → Option ℕ
numeral_on n [] = Some n
numeral_on n (b ∷ bs) = option_and_then (λ d. numeral_on (n * 10 + d) bs) (digit b)

-- the number that a word of digits writes
unfoldable pub numeral : List ℕ → Option ℕ
numeral [] = None
numeral (b ∷ bs) = numeral_on 0 (b ∷ bs)

-- a number that is too large stands for the largest
abbrev pub capped : ℕ → ℕ → ℕ
capped top n = min n top
