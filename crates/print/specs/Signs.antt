-- Signs of squares as they are printed.
use Rattle.std.specs.Prelude.{ℕ, zero, suc, pred, List, [], ◌∷◌, ◌++◌, ℤ, pos, negsuc}
use Rattle.phase_field.specs.Field.{Field}
use Rattle.phase_cost.specs.Steps.{residue, turn_steps}

-- `+` for a residue above 0, where right and down is more than down and right, `-` for one below, `.` for none
abbrev pub sign : ℤ → ℕ
sign (pos zero) = 46
sign (pos (suc n)) = 43
sign (negsuc n) = 45

-- so many squares of row y, from x on
unfoldable pub sign_row : Field → ℕ → ℕ → ℕ → List ℕ
sign_row f y x zero = []
sign_row f y x (suc n) = sign (residue (turn_steps f) x y) ∷ sign_row f y (suc x) n

-- so many rows of squares from y on, a line each
unfoldable pub sign_rows : Field → ℕ → ℕ → List ℕ
sign_rows f y zero = []
sign_rows f y (suc n) = sign_row f y 0 (pred f.wide) ++ (10 ∷ sign_rows f (suc y) n)

abbrev pub signs_text : Field → List ℕ
signs_text f = sign_rows f 0 (pred f.high)
