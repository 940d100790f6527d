-- Before anything flows.
use Rattle.std.proofs.Common.{◌≡◌, ℕ, zero, suc, ◌+◌, ◌-◌, ◌<◌, true, ℤ, pos, ◌+ℤ◌, ◌-ℤ◌, ◌≤ℤ◌, nat_abs, sym, ap, ◌∙◌, subst, arith}
use Rattle.std.proofs.lemmas.Int.{ints}
use Rattle.net_cells.specs.Net.{Residual, back}
use Rattle.net_cells.specs.Lists.{head}
use Rattle.phase_cost.specs.Steps.{Steps}
use Rattle.squares_cells.specs.Squares.{Corner, stride, cell, column, row, is_square, price_at, price_by, AreSquares, Unsolved}
use Rattle.squares_cells.specs.Theorems.{UnsolvedIsSound}
use Rattle.squares_cells.proofs.Cells.{own_corner, own_cell, squares_paired}

module _ (s : Steps) (g : Residual) (w : Unsolved s g) where
  here_at : (d x y : ℕ) → d < 4 → Corner s.wide s.high x y → g.cost (cell s x y) d ≡ pos (price_at s d x y)
  here_at zero x (suc y) l c = w.priced.right x y (omega (arith, c.x_below)) (omega (arith, c.y_below))
  here_at (suc zero) (suc x) (suc y) l c = w.priced.left x y (omega (arith, c.x_below)) (omega (arith, c.y_below))
  here_at (suc (suc zero)) (suc x) (suc y) l c = w.priced.up x y (omega (arith, c.x_below)) (omega (arith, c.y_below))
  here_at (suc (suc (suc zero))) (suc x) y l c = w.priced.down x y (omega (arith, c.x_below)) (omega (arith, c.y_below))
  here_at zero x zero l c = absurd (omega (arith, c.y_some))
  here_at (suc zero) zero y l c = absurd (omega (arith, c.x_some))
  here_at (suc zero) (suc x) zero l c = absurd (omega (arith, c.y_some))
  here_at (suc (suc zero)) zero y l c = absurd (omega (arith, c.x_some))
  here_at (suc (suc zero)) (suc x) zero l c = absurd (omega (arith, c.y_some))
  here_at (suc (suc (suc zero))) zero y l c = absurd (omega (arith, c.x_some))
  here_at (suc (suc (suc (suc d)))) x y l c = absurd (omega arith)

  -- at the other end
  there_at : (d x y : ℕ) → d < 4 → Corner s.wide s.high x y → g.cost (head (stride s) (cell s x y) d) (back d) ≡ pos (price_at s d x y)
  unfolding head back
  there_at zero x (suc y) l c = ap (λ (v : ℕ). g.cost v 1) is ∙ w.priced.left x y (omega (arith, c.x_below)) (omega (arith, c.y_below))
    where
      is : cell s x (suc y) + 1 ≡ cell s (suc x) (suc y)
      is = omega arith
  there_at (suc zero) (suc x) (suc y) l c = ap (λ (v : ℕ). g.cost v 0) is ∙ w.priced.right x y (omega (arith, c.x_below)) (omega (arith, c.y_below))
    where
      is : cell s (suc x) (suc y) - 1 ≡ cell s x (suc y)
      is = omega arith
  there_at (suc (suc zero)) (suc x) (suc y) l c = ap (λ (v : ℕ). g.cost v 3) is ∙ w.priced.down x y (omega (arith, c.x_below)) (omega (arith, c.y_below))
    where
      is : cell s (suc x) (suc y) - stride s ≡ cell s (suc x) y
      is = omega arith
  there_at (suc (suc (suc zero))) (suc x) y l c = ap (λ (v : ℕ). g.cost v 2) is ∙ w.priced.up x y (omega (arith, c.x_below)) (omega (arith, c.y_below))
    where
      is : cell s (suc x) y + stride s ≡ cell s (suc x) (suc y)
      is = omega arith
  there_at zero x zero l c = absurd (omega (arith, c.y_some))
  there_at (suc zero) zero y l c = absurd (omega (arith, c.x_some))
  there_at (suc zero) (suc x) zero l c = absurd (omega (arith, c.y_some))
  there_at (suc (suc zero)) zero y l c = absurd (omega (arith, c.x_some))
  there_at (suc (suc zero)) (suc x) zero l c = absurd (omega (arith, c.y_some))
  there_at (suc (suc (suc zero))) zero y l c = absurd (omega (arith, c.x_some))
  there_at (suc (suc (suc (suc d)))) x y l c = absurd (omega arith)

  pub here : (u d : ℕ) → is_square s u ≡ true → d < 4 → g.cost u d ≡ pos (price_by s u d)
  unfolding price_by
  here u d i l = subst (λ (v : ℕ). g.cost v d ≡ pos (price_at s d (column s u) (row s u))) (own_cell s u) (here_at d (column s u) (row s u) l (own_corner s u i))

  pub there : (u d : ℕ) → is_square s u ≡ true → d < 4 → g.cost (g.head u d) (back d) ≡ pos (price_by s u d)
  unfolding price_by
  there u d i l =
      ap (λ (v : ℕ). g.cost v (back d)) (w.head u d)
      ∙ subst (λ (v : ℕ). g.cost (head (stride s) v d) (back d) ≡ pos (price_at s d (column s u) (row s u))) (own_cell s u) (there_at d (column s u) (row s u) l (own_corner s u i))

  squares : AreSquares s g
  squares = record {
    inner = w.inner;
    head = w.head;
    price = λ u d i l. ap nat_abs (here u d i l);
  }

  inner_square : (u : ℕ) → g.inner u ≡ true → is_square s u ≡ true
  inner_square u i = sym (w.inner u) ∙ i

  some : (c p q : ℤ) (n : ℕ) → c ≡ pos n → p ≡ pos 0 → q ≡ pos 0 → pos 0 ≤ℤ ((c +ℤ p) -ℤ q)
  some c p q n e f h = omega (arith, ints)

pub unsolved_is_sound : UnsolvedIsSound
unsolved_is_sound s g w = record {
  squares = squares s g w;
  feasible = record {
    paired = squares_paired s g (squares s g w);
    forward = λ u d i l. some s g w (g.cost u d) (g.potential u) (g.potential (g.head u d)) (price_by s u d) (here s g w u d (inner_square s g w u i) l) (w.flat u) (w.flat (g.head u d));
    backward = λ u d i l.
        some s g w (g.cost (g.head u d) (back d)) (g.potential (g.head u d)) (g.potential u) (price_by s u d) (there s g w u d (inner_square s g w u i) l) (w.flat (g.head u d)) (w.flat u);
    outside = λ v e. w.flat v;
  };
  ready = record {
    here = λ u d i l. let e = here s g w u d (inner_square s g w u i) l in e ∙ ap (λ (z : ℤ). pos (nat_abs z)) (sym e);
    there = λ u d i l. there s g w u d (inner_square s g w u i) l ∙ ap (λ (z : ℤ). pos (nat_abs z)) (sym (here s g w u d (inner_square s g w u i) l));
  };
}
