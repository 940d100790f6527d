-- Numbers of 32 bits are read as they are.
use Rattle.std.proofs.Common.{◌≡◌, ◌<◌, ◌^◌, ℤ, w32, to_z, of_z, arith}
use lib.Signed.{mag}
use Rattle.std.proofs.lemmas.Int.{ints}

pub whole : (z : ℤ) → mag z < 2 ^ 31 → to_z w32 (of_z w32 z) ≡ z
whole z h = omega (arith, ints)
