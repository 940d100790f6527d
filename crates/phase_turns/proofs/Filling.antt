-- What is told of a place, or 0 where nothing is.
use Rattle.std.proofs.Common.{◌≡◌, ℕ, ◌≤◌, ℤ, pos, nat_abs, get_or, replicate, Some, None, Option, unwrap_or, inl, inr, arith}
use Rattle.std.proofs.lemmas.Bool.{cases_lt}
use Rattle.std.proofs.lemmas.List.{get_or_past}
use lib.ListN.{get_or-replicate, length-replicate}
use Rattle.std.specs.Option.{SomeIff}

pub value_small : (P : Type 0) (o : Option ℤ) (v : ℤ) → SomeIff o P v → nat_abs v ≤ 1 → nat_abs (unwrap_or o (pos 0)) ≤ 1
value_small P None v c l = omega arith
value_small P (Some x) v c l = rw c.1 l

-- a list of noughts has no other number
pub filled_none : (n k : ℕ) → get_or (replicate n (pos 0)) k (pos 0) ≡ pos 0
filled_none n k = elim (cases_lt k n) [
  | inl within ↦ get_or-replicate n k (pos 0) (pos 0) within
  | inr past ↦ get_or_past (replicate n (pos 0)) k (pos 0) (omega (arith, past, length-replicate n (pos 0)))
]
