-- A settled flow between squares makes heights that cost least.
use Rattle.std.proofs.Common.{◌≡◌, ℕ, zero, suc, pred, ◌*◌, ◌<◌, ◌≤◌, true, ℤ, pos, negsuc, ◌+ℤ◌, ◌-ℤ◌, ◌*ℤ◌, ◌≤ℤ◌, neg_ℤ, nat_abs, sym, ap, ◌∙◌, subst, ap₂, inl, inr, mul-zero, arith}
use Rattle.std.proofs.lemmas.Int.{ints}
use Rattle.std.proofs.lemmas.Bool.{cases_lt}
use Rattle.sums.proofs.Ring.{mul_zero_ℤ, neg_mul_ℤ}
use Rattle.phase_cost.specs.Steps.{Steps, heights_cost, residue, turn_steps}
use Rattle.phase_cost.specs.Certificate.{Potentials, IsDualFeasible, dual_value}
use Rattle.phase_cost.proofs.Certificate.{certified_heights, flow_reached}
use Rattle.phase_cost.proofs.Cost.{all_steps_ext, cost_turns, least_from_turns}
use Rattle.phase_cost.proofs.Integral.{integral_more}
use Rattle.net_cells.specs.Net.{Residual, Tight, unit}
use Rattle.net_cells.specs.Lists.{head}
use Rattle.net_cells_theory.proofs.Edge.{from_reduced, tight_mirrored}
use Rattle.squares_cells.specs.Squares.{Corner, stride, cell, row, is_square, supply, price_at, price_by, Across, out_at, out_by, flow_cost, heights_by, Settled}
use Rattle.squares_cells.specs.Theorems.{SettledIsLeast, SettledTurns}
use Rattle.squares_cells.proofs.Cells.{column_of, row_of, square_at, outside_at}

-- what flows over a tight edge costs what the potentials differ by
brings : (price : ℕ) (z d : ℤ) → Tight price z d → d *ℤ z ≡ pos (price * nat_abs z)
brings price (pos zero) d e = mul_zero_ℤ d ∙ ap pos (sym (mul-zero price))
brings price (pos (suc n)) d e = ap (λ (k : ℤ). k *ℤ pos (suc n)) (e.along (omega (arith, ints)))
brings price (negsuc n) d e =
    ap (λ (k : ℤ). k *ℤ negsuc n) (e.against (omega (arith, ints))) ∙ (neg_mul_ℤ (pos price) (negsuc n) ∙ twice (price * suc n))
  where
    twice : (m : ℕ) → neg_ℤ (neg_ℤ (pos m)) ≡ pos m
    twice m = omega (arith, ints)

module _ (s : Steps) (a : Across) (g : Residual) (flow : ℕ → ℕ → ℤ) (w : Settled s a g flow) where
  unfoldable numbers : Potentials
  numbers x y = g.potential (cell s x y)

  outside : (x y : ℕ) → x ≤ s.wide → (Corner s.wide s.high x y → ⊥) → numbers x y ≡ pos 0
  unfolding numbers
  outside x y l n = w.feasible.outside (cell s x y) (w.squares.inner (cell s x y) ∙ outside_at s x y l n)

  -- each way out of a square is tight
  tight : (u d : ℕ) → is_square s u ≡ true → d < 4 → Tight (price_by s u d) (out_by s a u d) (g.potential (head (stride s) u d) -ℤ g.potential u)
  tight u d i l =
      let j = w.squares.inner u ∙ i in
      let p = w.squares.price u d i l in
      let e = w.across u d i l in
      let here = w.ready.here u d j l ∙ ap₂ unit p e in
      let there = w.ready.there u d j l ∙ ap₂ unit p (ap neg_ℤ e) in
      subst (λ (v : ℕ). Tight (price_by s u d) (out_by s a u d) (g.potential v -ℤ g.potential u)) (w.squares.head u d)
      (from_reduced (price_by s u d) (out_by s a u d) (g.potential u) (g.potential (g.head u d))
      (subst (λ (z : ℤ). pos 0 ≤ℤ ((z +ℤ g.potential u) -ℤ g.potential (g.head u d))) here (w.feasible.forward u d j l))
      (subst (λ (z : ℤ). pos 0 ≤ℤ ((z +ℤ g.potential (g.head u d)) -ℤ g.potential u)) there (w.feasible.backward u d j l)))

  tight_at : (d x y i j : ℕ) → d < 4 → Corner s.wide s.high x y → head (stride s) (cell s x y) d ≡ cell s i j →
      Tight (price_at s d x y) (out_at a d x y) (numbers i j -ℤ numbers x y)
  unfolding numbers price_by out_by
  tight_at d x y i j l c e =
      let col = column_of s x y (omega (arith, c.x_below)) in
      let row' = row_of s x y (omega (arith, c.x_below)) in
      let t = tight (cell s x y) d (square_at s x y c) l in
      subst (λ (v : ℕ). Tight (price_at s d x y) (out_at a d x y) (g.potential v -ℤ g.potential (cell s x y))) e
      (subst (λ (m : ℕ). Tight (price_at s d x m) (out_at a d x m) (g.potential (head (stride s) (cell s x y) d) -ℤ g.potential (cell s x y))) row'
      (subst (λ (k : ℕ). Tight (price_at s d k (row s (cell s x y))) (out_at a d k (row s (cell s x y))) (g.potential (head (stride s) (cell s x y) d) -ℤ g.potential (cell s x y))) col t))

  no_flow : (price : ℕ) (z d : ℤ) → z ≡ pos 0 → d ≡ pos 0 → Tight price z d
  no_flow price z d p q = record { small = omega (arith, ints); along = λ h. absurd (omega (arith, ints)); against = λ h. absurd (omega (arith, ints)) }

  twice : (z : ℤ) → z ≡ neg_ℤ (neg_ℤ z)
  twice z = omega (arith, ints)

  minus : (x y : ℤ) → x -ℤ y ≡ neg_ℤ (y -ℤ x)
  minus x y = omega (arith, ints)

  up_is : (x y : ℕ) → head (stride s) (cell s x (suc y)) 2 ≡ cell s x y
  unfolding head
  up_is x y = omega arith

  down_is : (x y : ℕ) → head (stride s) (cell s x y) 3 ≡ cell s x (suc y)
  unfolding head
  down_is x y = omega arith

  right_is : (x y : ℕ) → head (stride s) (cell s x y) 0 ≡ cell s (suc x) y
  unfolding head
  right_is x y = omega arith

  left_is : (x y : ℕ) → head (stride s) (cell s (suc x) y) 1 ≡ cell s x y
  unfolding head
  left_is x y = omega arith

  right_tight : (x y : ℕ) → suc x < s.wide → y < s.high → Tight (s.right x y) (a.right x y) (numbers (suc x) y -ℤ numbers (suc x) (suc y))
  right_tight x zero k l = elim (cases_lt 1 s.high) [
    | inl c ↦ tight_at 2 (suc x) 1 (suc x) 0 (omega arith) (record { x_some = omega arith; x_below = k; y_some = omega arith; y_below = c }) (up_is (suc x) 0)
    | inr c ↦ no_flow (s.right x 0) (a.right x 0) _ (w.one_row (omega arith) x)
        (omega (arith, ints, outside (suc x) 0 (omega arith) (λ i. omega (arith, i.y_some)), outside (suc x) 1 (omega arith) (λ i. omega (arith, i.y_below))))
  ]
  right_tight x (suc y) k l =
      tight_mirrored (s.right x (suc y)) (neg_ℤ (a.right x (suc y))) (numbers (suc x) (suc (suc y)) -ℤ numbers (suc x) (suc y)) _ _
      (twice (a.right x (suc y))) (minus (numbers (suc x) (suc y)) (numbers (suc x) (suc (suc y))))
      (tight_at 3 (suc x) (suc y) (suc x) (suc (suc y)) (omega arith) (record { x_some = omega arith; x_below = k; y_some = omega arith; y_below = l }) (down_is (suc x) (suc y)))

  below_tight : (x y : ℕ) → x < s.wide → suc y < s.high → Tight (s.below x y) (a.below x y) (numbers (suc x) (suc y) -ℤ numbers x (suc y))
  below_tight zero y k l = elim (cases_lt 1 s.wide) [
    | inl c ↦ tight_mirrored (s.below 0 y) (neg_ℤ (a.below 0 y)) (numbers 0 (suc y) -ℤ numbers 1 (suc y)) _ _
        (twice (a.below 0 y)) (minus (numbers 1 (suc y)) (numbers 0 (suc y)))
        (tight_at 1 1 (suc y) 0 (suc y) (omega arith) (record { x_some = omega arith; x_below = c; y_some = omega arith; y_below = l }) (left_is 0 (suc y)))
    | inr c ↦ no_flow (s.below 0 y) (a.below 0 y) _ (w.one_column (omega arith) y)
        (omega (arith, ints, outside 1 (suc y) (omega arith) (λ i. omega (arith, i.x_below)), outside 0 (suc y) (omega arith) (λ i. omega (arith, i.x_some))))
  ]
  below_tight (suc x) y k l =
      tight_at 0 (suc x) (suc y) (suc (suc x)) (suc y) (omega arith) (record { x_some = omega arith; x_below = k; y_some = omega arith; y_below = l }) (right_is (suc x) (suc y))

  feasible : IsDualFeasible s numbers
  feasible = record {
    top = λ x k. outside (suc x) 0 (omega arith) (λ c. omega (arith, c.y_some));
    bottom = λ x k. outside (suc x) s.high (omega arith) (λ c. omega (arith, c.y_below));
    left = λ y l. outside 0 (suc y) (omega arith) (λ c. omega (arith, c.x_some));
    end = λ y l. outside s.wide (suc y) (omega arith) (λ c. omega (arith, c.x_below));
    right = λ x y k l. turned (numbers (suc x) (suc y)) (numbers (suc x) y) (s.right x y) (right_tight x y k l).small;
    below = λ x y k l. (below_tight x y k l).small;
  }
    where
      turned : (b c : ℤ) (n : ℕ) → nat_abs (c -ℤ b) ≤ n → nat_abs (b -ℤ c) ≤ n
      turned b c n h = omega (arith, ints)

  makes_up : (x y : ℕ) → suc x < s.wide → suc y < s.high → (a.right x y +ℤ a.below (suc x) y) -ℤ (a.below x y +ℤ a.right x (suc y)) ≡ pos 0 -ℤ residue s x y
  makes_up x y k l = omega (arith, ints, meets, supply_is, flow_is 0 (omega arith), flow_is 1 (omega arith), flow_is 2 (omega arith), flow_is 3 (omega arith))
    where
      square : is_square s (cell s (suc x) (suc y)) ≡ true
      square = square_at s (suc x) (suc y) (record { x_some = omega arith; x_below = k; y_some = omega arith; y_below = l })

      meets : ((flow (cell s (suc x) (suc y)) 0 +ℤ flow (cell s (suc x) (suc y)) 1) +ℤ flow (cell s (suc x) (suc y)) 2) +ℤ flow (cell s (suc x) (suc y)) 3 ≡ supply s (cell s (suc x) (suc y))
      meets = w.meets (cell s (suc x) (suc y)) square

      supply_is : supply s (cell s (suc x) (suc y)) ≡ neg_ℤ (residue s x y)
      supply_is = unfold supply in ap₂ (λ (i j : ℕ). neg_ℤ (residue s (pred i) (pred j))) (column_of s (suc x) (suc y) (omega arith)) (row_of s (suc x) (suc y) (omega arith))

      flow_is : (d : ℕ) → d < 4 → flow (cell s (suc x) (suc y)) d ≡ out_at a d (suc x) (suc y)
      flow_is d m = unfold out_by in w.across (cell s (suc x) (suc y)) d square m ∙ ap₂ (out_at a d) (column_of s (suc x) (suc y) (omega arith)) (row_of s (suc x) (suc y) (omega arith))

  reached : pos (heights_cost s (heights_by s a)) ≡ dual_value s numbers
  unfolding heights_by
  reached =
      flow_reached s numbers a.right a.below feasible makes_up (λ x y k l. brings (s.right x y) (a.right x y) (numbers (suc x) y -ℤ numbers (suc x) (suc y)) (right_tight x y k l))
      (λ x y k l. brings (s.below x y) (a.below x y) (numbers (suc x) (suc y) -ℤ numbers x (suc y)) (below_tight x y k l))

  costs : heights_cost s (heights_by s a) ≡ flow_cost s a
  unfolding heights_by heights_cost flow_cost
  costs =
      let is = integral_more s a.right a.below makes_up in
      all_steps_ext s.wide s.high _ _ _ _ (λ x y k l. ap (λ (z : ℤ). s.right x y * nat_abs z) (is.0 x y)) (λ x y k l. ap (λ (z : ℤ). s.below x y * nat_abs z) (is.1 x y k l))

pub settled_is_least : SettledIsLeast
unfolding numbers
settled_is_least s a g flow w = record {
  feasible = feasible s a g flow w;
  reached = reached s a g flow w;
  least = (certified_heights s (numbers s a g flow w) (feasible s a g flow w)).1 (heights_by s a) (reached s a g flow w);
  cost = costs s a g flow w;
}

pub settled_turns : SettledTurns
unfolding turn_steps
settled_turns f a g flow w =
    let c = settled_is_least (turn_steps f) a g flow w in
    (least_from_turns f (heights_by (turn_steps f) a) c.least, cost_turns f (heights_by (turn_steps f) a) ∙ ap (λ (n : ℕ). f.turn * n) c.cost)
