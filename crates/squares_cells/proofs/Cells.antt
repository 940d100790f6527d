-- The numbers of cells, and their neighbours.
use Rattle.std.proofs.Common.{◌≡◌, ℕ, zero, suc, ◌*◌, ◌<◌, ◌≤◌, true, false, ◌&&◌, ltb, ◌≢◌, sym, ap, ◌∙◌, ap₂, inl, inr, mul-le-mul_left, arith}
use Rattle.std.proofs.lemmas.Bool.{ltb-true, lt-ltb, and_from, and_parts, cases_Bool}
use Rattle.std.proofs.lemmas.Nat.{div-mul-add, mod-mul-add}
use Rattle.phase_cost.specs.Steps.{Steps}
use Rattle.net_cells.specs.Net.{back}
use Rattle.net_cells.specs.Lists.{head}
use Rattle.squares_cells.specs.Squares.{Corner, stride, cell, column, row, corner, is_square}
use Rattle.squares_cells.specs.Theorems.{SquaresPaired}

pub corner_yes : (w h x y : ℕ) → Corner w h x y → corner w h x y ≡ true
corner_yes w h x y c =
    and_from (ltb 0 x && ltb x w) (ltb 0 y && ltb y h) (and_from (ltb 0 x) (ltb x w) (lt-ltb 0 x c.x_some) (lt-ltb x w c.x_below))
    (and_from (ltb 0 y) (ltb y h) (lt-ltb 0 y c.y_some) (lt-ltb y h c.y_below))

pub yes_corner : (w h x y : ℕ) → corner w h x y ≡ true → Corner w h x y
yes_corner w h x y e =
    let b = and_parts (ltb 0 x && ltb x w) (ltb 0 y && ltb y h) e in
    let i = and_parts (ltb 0 x) (ltb x w) b.0 in
    let j = and_parts (ltb 0 y) (ltb y h) b.1 in
    record { x_some = ltb-true 0 x i.0; x_below = ltb-true x w i.1; y_some = ltb-true 0 y j.0; y_below = ltb-true y h j.1 }

pub corner_no : (w h x y : ℕ) → (Corner w h x y → ⊥) → corner w h x y ≡ false
corner_no w h x y n = elim (cases_Bool (corner w h x y)) [ inl e ↦ absurd (n (yes_corner w h x y e)) | inr e ↦ e ]

pub column_of : (s : Steps) (x y : ℕ) → x ≤ s.wide → column s (cell s x y) ≡ x
column_of s x y l = mod-mul-add y (suc s.wide) x (omega arith)

pub row_of : (s : Steps) (x y : ℕ) → x ≤ s.wide → row s (cell s x y) ≡ y
row_of s x y l = div-mul-add y (suc s.wide) x (omega arith)

pub square_at : (s : Steps) (x y : ℕ) → Corner s.wide s.high x y → is_square s (cell s x y) ≡ true
square_at s x y c = ap₂ (corner s.wide s.high) (column_of s x y (omega (arith, c.x_below))) (row_of s x y (omega (arith, c.x_below))) ∙ corner_yes s.wide s.high x y c

pub outside_at : (s : Steps) (x y : ℕ) → x ≤ s.wide → (Corner s.wide s.high x y → ⊥) → is_square s (cell s x y) ≡ false
outside_at s x y l n = ap₂ (corner s.wide s.high) (column_of s x y l) (row_of s x y l) ∙ corner_no s.wide s.high x y n

pub own_corner : (s : Steps) (u : ℕ) → is_square s u ≡ true → Corner s.wide s.high (column s u) (row s u)
own_corner s u e = yes_corner s.wide s.high (column s u) (row s u) e

pub own_cell : (s : Steps) (u : ℕ) → cell s (column s u) (row s u) ≡ u
own_cell s u = omega arith

-- there is a row of cells before a square
pub square_low : (s : Steps) (u : ℕ) → is_square s u ≡ true → stride s ≤ u
square_low s u e =
    let c = own_corner s u e in
    let l : stride s * 1 ≤ stride s * row s u = mul-le-mul_left (stride s) c.y_some in
    omega (arith, l, own_cell s u)

home : (s u d : ℕ) → 1 ≤ s → s ≤ u → d < 4 → head s (head s u d) (back d) ≡ u
unfolding head back
home s u zero k l m = omega arith
home s u (suc zero) k l m = omega arith
home s u (suc (suc zero)) k l m = omega arith
home s u (suc (suc (suc zero))) k l m = omega arith
home s u (suc (suc (suc (suc d)))) k l m = absurd (omega arith)

apart : (s u d : ℕ) → 1 ≤ s → s ≤ u → d < 4 → (head s u d ≢ u)
unfolding head
apart s u zero k l m e = absurd (omega (arith, e))
apart s u (suc zero) k l m e = absurd (omega (arith, e))
apart s u (suc (suc zero)) k l m e = absurd (omega (arith, e))
apart s u (suc (suc (suc zero))) k l m e = absurd (omega (arith, e))
apart s u (suc (suc (suc (suc d)))) k l m e = absurd (omega arith)

pub squares_paired : SquaresPaired
squares_paired s g a = record {
  home = λ u d i l. a.head (g.head u d) (back d) ∙ (ap (λ (v : ℕ). head (stride s) v (back d)) (a.head u d) ∙ home (stride s) u d (omega arith) (square_low s u (sym (a.inner u) ∙ i)) l);
  apart = λ u d i l e. apart (stride s) u d (omega arith) (square_low s u (sym (a.inner u) ∙ i)) l (sym (a.head u d) ∙ e);
}
