-- A field by value stands for the lists that it was taken from.
use Rattle.std.proofs.Common.{◌≡◌, ℕ, ◌+◌, ◌*◌, List, get_or}
use Rattle.phase_field.specs.Field.{field_in}

pub same_lists : (w h t : ℕ) (ss ss' rs rs' bs bs' : List ℕ) → ((k : ℕ) → get_or ss k 0 ≡ get_or ss' k 0) → ((k : ℕ) → get_or rs k 0 ≡ get_or rs' k 0) → ((k : ℕ) → get_or bs k 0 ≡ get_or bs' k 0) →
    field_in w h t ss rs bs ≡ field_in w h t ss' rs' bs'
same_lists w h t ss ss' rs rs' bs bs' s r b =
    λ i. record { wide = w; high = h; turn = t; seen = λ x y. s (y * w + x) i; right = λ x y. r (y * w + x) i; below = λ x y. b (y * w + x) i }
