-- Signs of squares as they are printed.
use Rattle.std.proofs.Common.{◌≡◌, ℕ, zero, suc, pred, ◌+◌, ◌-◌, ◌<◌, List, [], ◌∷◌, ◌++◌, ℤ, pos, negsuc, sym, refl, ap, ◌∙◌, append_assoc, append-nil, add-one, arith}
use lib.Utf8.{encode}
use Rattle.phase_field.specs.Field.{Field}
use Rattle.phase_cost.specs.Steps.{residue, turn_steps}
use Rattle.print.specs.Signs.{sign, sign_row, sign_rows}

-- a sign is one byte
pub encode-sign : (z : ℤ) → encode (sign z) ≡ sign z ∷ []
unfolding encode
encode-sign (pos zero) = refl
encode-sign (pos (suc n)) = refl
encode-sign (negsuc n) = refl

row_zero : (f : Field) (y x n : ℕ) → n ≡ 0 → sign_row f y x n ≡ []
unfolding sign_row
row_zero f y x zero e = refl
row_zero f y x (suc n) e = absurd (omega arith)

row_suc : (f : Field) (y x n m : ℕ) → n ≡ suc m → sign_row f y x n ≡ sign (residue (turn_steps f) x y) ∷ sign_row f y (suc x) m
unfolding sign_row
row_suc f y x n m e = ap (sign_row f y x) e

pub row_ends : (b e : List ℕ) (f : Field) (y x n : ℕ) → n ≡ 0 → b ++ sign_row f y x n ≡ e → b ≡ e
row_ends b e f y x n l h = sym (append-nil b) ∙ ap (λ (k : List ℕ). b ++ k) (sym (row_zero f y x n l)) ∙ h

pub row_step : (b after s e : List ℕ) (f : Field) (y x w : ℕ) → x < w → s ≡ sign (residue (turn_steps f) x y) ∷ [] → after ≡ b ++ s → b ++ sign_row f y x (w - x) ≡ e → after ++ sign_row f y (x + 1) (w - (x + 1)) ≡ e
row_step b after s e f y x w l p q h =
    ap (λ (k : List ℕ). k ++ sign_row f y (x + 1) (w - (x + 1))) (q ∙ ap (λ (k : List ℕ). b ++ k) p) ∙ append_assoc b (sign (residue (turn_steps f) x y) ∷ []) (sign_row f y (x + 1) (w - (x + 1)))
    ∙ ap (λ (k : ℕ). b ++ (sign (residue (turn_steps f) x y) ∷ sign_row f y k (w - (x + 1)))) (add-one x)
    ∙ ap (λ (k : List ℕ). b ++ k) (sym (row_suc f y x (w - x) (w - (x + 1)) (omega arith))) ∙ h

rows_zero : (f : Field) (y n : ℕ) → n ≡ 0 → sign_rows f y n ≡ []
unfolding sign_rows
rows_zero f y zero e = refl
rows_zero f y (suc n) e = absurd (omega arith)

rows_suc : (f : Field) (y n m : ℕ) → n ≡ suc m → sign_rows f y n ≡ sign_row f y 0 (pred f.wide) ++ (10 ∷ sign_rows f (suc y) m)
unfolding sign_rows
rows_suc f y n m e = ap (sign_rows f y) e

pub rows_end : (b e : List ℕ) (f : Field) (y n : ℕ) → n ≡ 0 → b ++ sign_rows f y n ≡ e → b ≡ e
rows_end b e f y n l h = sym (append-nil b) ∙ ap (λ (k : List ℕ). b ++ k) (sym (rows_zero f y n l)) ∙ h

pub rows_step : (b m after e : List ℕ) (f : Field) (y w : ℕ) → y < w → m ≡ b ++ sign_row f y 0 (pred f.wide) → after ≡ m ++ (10 ∷ []) → b ++ sign_rows f y (w - y) ≡ e → after ++ sign_rows f (y + 1) (w - (y + 1)) ≡ e
rows_step b m after e f y w l p q h =
    let r = sign_row f y 0 (pred f.wide) in
    ap (λ (k : List ℕ). k ++ sign_rows f (y + 1) (w - (y + 1))) (q ∙ ap (λ (k : List ℕ). k ++ (10 ∷ [])) p)
    ∙ append_assoc (b ++ r) (10 ∷ []) (sign_rows f (y + 1) (w - (y + 1))) ∙ append_assoc b r (10 ∷ sign_rows f (y + 1) (w - (y + 1)))
    ∙ ap (λ (k : ℕ). b ++ (r ++ (10 ∷ sign_rows f k (w - (y + 1))))) (add-one y) ∙ ap (λ (k : List ℕ). b ++ k) (sym (rows_suc f y (w - y) (w - (y + 1)) (omega arith))) ∙ h
