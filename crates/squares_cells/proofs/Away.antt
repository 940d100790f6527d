-- How far squares are from outside.
use Rattle.std.proofs.Common.{◌≡◌, ℕ, zero, suc, ◌+◌, ◌*◌, ◌-◌, ◌<◌, ◌≤◌, true, sym, ◌∙◌, subst, inl, inr, arith}
use Rattle.std.proofs.lemmas.Bool.{cases_lt}
use Rattle.phase_cost.specs.Steps.{Steps}
use Rattle.net_cells.specs.Net.{Residual}
use Rattle.net_cells.specs.Search.{Away}
use Rattle.net_cells.specs.Lists.{head}
use Rattle.squares_cells.specs.Squares.{Corner, stride, cell, column, row, is_square, AreSquares}
use Rattle.squares_cells.specs.Theorems.{SquaresAway}
use Rattle.squares_cells.proofs.Cells.{square_at, outside_at, own_corner, own_cell}

module _ (s : Steps) (g : Residual) (a : AreSquares s g) where
  -- outside is n steps away from what is a step away
  nearer : (u v d n : ℕ) → is_square s u ≡ true → d < 4 → head (stride s) u d ≡ v → Away g n v → Away g (suc n) u
  nearer u v d n i l e w = (a.inner u ∙ i, (d, (l, subst (Away g n) (sym (a.head u d ∙ e)) w)))

  none : (x y : ℕ) → x ≤ s.wide → (Corner s.wide s.high x y → ⊥) → Away g 0 (cell s x y)
  none x y l n = a.inner (cell s x y) ∙ outside_at s x y l n

  leftward : (x y : ℕ) → x < s.wide → 0 < y → y < s.high → Away g x (cell s x y)
  leftward zero y l p q = none 0 y (omega arith) (λ c. omega (arith, c.x_some))
  leftward (suc x) y l p q =
      nearer (cell s (suc x) y) (cell s x y) 1 x (square_at s (suc x) y (record { x_some = omega arith; x_below = l; y_some = p; y_below = q })) (omega arith) is
      (leftward x y (omega arith) p q)
    where
      is : head (stride s) (cell s (suc x) y) 1 ≡ cell s x y
      is = unfold head in omega arith

  rightward : (r x y : ℕ) → x + r ≡ s.wide → 0 < x → 0 < y → y < s.high → Away g r (cell s x y)
  rightward zero x y e o p q = none x y (omega arith) (λ c. omega (arith, c.x_below))
  rightward (suc r) x y e o p q =
      nearer (cell s x y) (cell s (suc x) y) 0 r (square_at s x y (record { x_some = o; x_below = omega arith; y_some = p; y_below = q })) (omega arith) is
      (rightward r (suc x) y (omega arith) (omega arith) p q)
    where
      is : head (stride s) (cell s x y) 0 ≡ cell s (suc x) y
      is = unfold head in omega arith

  upward : (y x : ℕ) → y < s.high → 0 < x → x < s.wide → Away g y (cell s x y)
  upward zero x l p q = none x 0 (omega arith) (λ c. omega (arith, c.y_some))
  upward (suc y) x l p q =
      nearer (cell s x (suc y)) (cell s x y) 2 y (square_at s x (suc y) (record { x_some = p; x_below = q; y_some = omega arith; y_below = l })) (omega arith) is
      (upward y x (omega arith) p q)
    where
      is : head (stride s) (cell s x (suc y)) 2 ≡ cell s x y
      is = unfold head in omega arith

  downward : (r y x : ℕ) → y + r ≡ s.high → 0 < y → 0 < x → x < s.wide → Away g r (cell s x y)
  downward zero y x e o p q = none x y (omega arith) (λ c. omega (arith, c.y_below))
  downward (suc r) y x e o p q =
      nearer (cell s x y) (cell s x (suc y)) 3 r (square_at s x y (record { x_some = p; x_below = q; y_some = o; y_below = omega arith })) (omega arith) is
      (downward r (suc y) x (omega arith) (omega arith) p q)
    where
      is : head (stride s) (cell s x y) 3 ≡ cell s x (suc y)
      is = unfold head in omega arith

  across_at : (x y : ℕ) → Corner s.wide s.high x y → (n : ℕ) × (2 * n ≤ s.wide) × Away g n (cell s x y)
  across_at x y c = elim (cases_lt s.wide (2 * x)) [
    | inl l ↦ (s.wide - x, omega (arith, c.x_below), rightward (s.wide - x) x y (omega (arith, c.x_below)) c.x_some c.y_some c.y_below)
    | inr l ↦ (x, l, leftward x y c.x_below c.y_some c.y_below)
  ]

  down_at : (x y : ℕ) → Corner s.wide s.high x y → (n : ℕ) × (2 * n ≤ s.high) × Away g n (cell s x y)
  down_at x y c = elim (cases_lt s.high (2 * y)) [
    | inl l ↦ (s.high - y, omega (arith, c.y_below), downward (s.high - y) y x (omega (arith, c.y_below)) c.y_some c.x_some c.x_below)
    | inr l ↦ (y, l, upward y x c.y_below c.x_some c.x_below)
  ]

pub squares_away : SquaresAway
squares_away s g u a i =
    let c = own_corner s u i in
    let e = own_cell s u in (
      subst (λ (v : ℕ). (n : ℕ) × (2 * n ≤ s.wide) × Away g n v) e (across_at s g a (column s u) (row s u) c),
      subst (λ (v : ℕ). (n : ℕ) × (2 * n ≤ s.high) × Away g n v) e (down_at s g a (column s u) (row s u) c),
    )
