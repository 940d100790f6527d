-- Heights: what was seen with its turns put back.
use Rattle.std.specs.Prelude.{ℕ, List, [], ◌∷◌, ℤ, pos, ◌+ℤ◌, ◌*ℤ◌}
use Rattle.std.specs.Int.{saturate_to_bits}

-- place by place, what was seen and so many turns, or the nearest number of 64 bits
unfoldable pub heights_of : ℕ → List ℕ → List ℤ → List ℤ
heights_of t [] ks = []
heights_of t (s ∷ ss) [] = []
heights_of t (s ∷ ss) (k ∷ ks) = saturate_to_bits 63 (pos s +ℤ (k *ℤ pos t)) ∷ heights_of t ss ks
