-- Numbers of 64 bits are read as they are.
use Rattle.std.proofs.Common.{◌≡◌, ◌<◌, ◌^◌, ℤ, w64, to_z, of_z, arith}
use lib.Signed.{mag}
use Rattle.std.proofs.lemmas.Int.{ints}

pub whole : (z : ℤ) → mag z < 2 ^ 63 → to_z w64 (of_z w64 z) ≡ z
whole z h = omega (arith, ints)
