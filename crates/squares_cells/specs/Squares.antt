-- The squares of expected steps as cells: what each supplies, the price of each way out of it, and what a flow between cells makes of the steps.
use Rattle.std.specs.Prelude.{◌≡◌, ℕ, suc, pred, ◌+◌, ◌*◌, ◌/◌, ◌%◌, ◌<◌, ◌≤◌, Bool, true, ◌&&◌, List, ℤ, pos, ◌+ℤ◌, neg_ℤ, nat_lt, unsigned_abs}
use Rattle.phase_cost.specs.Steps.{Steps, Heights, residue, integral, all_steps, heights_cost}
use Rattle.phase_cost.specs.Certificate.{Potentials, IsDualFeasible, dual_value}
use Rattle.net_cells.specs.Net.{of_four, Residual, Feasible, Ready, out}
use Rattle.net_cells.specs.Lists.{head, right_of, up_of}
use Rattle.net_cells.specs.declared.cell.Flows.{Flows}

-- Cells are numbered row by row, one more in a row than places. The square whose last corner is place (x, y) is cell (x, y); the cells of
-- the first and the last rows and columns are no squares, and lie outside.
abbrev pub stride : Steps → ℕ
stride s = suc s.wide

abbrev pub cells : Steps → ℕ
cells s = suc s.high * stride s

abbrev pub cell : Steps → ℕ → ℕ → ℕ
cell s x y = y * stride s + x

abbrev pub column : Steps → ℕ → ℕ
column s u = u % stride s

abbrev pub row : Steps → ℕ → ℕ
row s u = u / stride s

-- (x, y) is the last corner of a square
abbrev pub corner : (w h x y : ℕ) → Bool
corner w h x y = (nat_lt 0 x && nat_lt x w) && (nat_lt 0 y && nat_lt y h)

-- the same, as facts
pub record Corner (w h x y : ℕ) : Type 0 where
  pub x_some : 0 < x
  pub x_below : x < w
  pub y_some : 0 < y
  pub y_below : y < h

abbrev pub is_square : Steps → ℕ → Bool
is_square s u = corner s.wide s.high (column s u) (row s u)

-- what a square lacks for its steps to come back: its residue, taken away
unfoldable pub supply : Steps → ℕ → ℤ
supply s u = neg_ℤ (residue s (pred (column s u)) (pred (row s u)))

-- the price of the step between the square at (x, y) and its neighbour by each way
abbrev pub price_at : Steps → ℕ → ℕ → ℕ → ℕ
price_at s d x y = of_four d (s.below x (pred y)) (s.below (pred x) (pred y)) (s.right (pred x) (pred y)) (s.right (pred x) y)

unfoldable pub price_by : Steps → ℕ → ℕ → ℕ
price_by s u d = price_at s d (column s u) (row s u)

-- what flows across the steps: up across the one to the right of a place, to the right across the one below it
pub record Across : Type 0 where
  pub right : ℕ → ℕ → ℤ
  pub below : ℕ → ℕ → ℤ

-- what flows out of the square at (x, y) by each way
abbrev pub out_at : Across → ℕ → ℕ → ℕ → ℤ
out_at a d x y = of_four d (a.below x (pred y)) (neg_ℤ (a.below (pred x) (pred y))) (a.right (pred x) (pred y)) (neg_ℤ (a.right (pred x) y))

unfoldable pub out_by : Steps → Across → ℕ → ℕ → ℤ
out_by s a u d = out_at a d (column s u) (row s u)

-- what flows across the steps where so much flows out of each cell, to the right and up
abbrev pub across : Steps → List Flows → Across
across s flows = record { right = λ x y. up_of flows (cell s (suc x) (suc y)); below = λ x y. right_of flows (cell s x (suc y)) }

-- what a flow costs
unfoldable pub flow_cost : Steps → Across → ℕ
flow_cost s a = all_steps s.wide s.high (λ x y. s.right x y * unsigned_abs (a.right x y)) (λ x y. s.below x y * unsigned_abs (a.below x y))

-- the heights that a flow makes: each step is what is expected, and what flows across it
unfoldable pub heights_by : Steps → Across → Heights
heights_by s a = integral (λ x y. s.to_right x y +ℤ a.right x y) (λ x y. s.to_below x y +ℤ a.below x y)

-- potentials of cells are numbers of squares
abbrev pub potentials_by : Steps → (ℕ → ℤ) → Potentials
potentials_by s potential x y = potential (cell s x y)

-- a network is that of the squares of steps: these are its inner cells, with neighbours by number, and a way costs the price of its step
pub record AreSquares (s : Steps) (g : Residual) : Type 0 where
  pub inner : (u : ℕ) → g.inner u ≡ is_square s u
  pub head : (u d : ℕ) → g.head u d ≡ head (stride s) u d
  pub price : (u d : ℕ) → is_square s u ≡ true → d < 4 → unsigned_abs (g.cost u d) ≡ price_by s u d

-- A flow between squares meets what they supply at reduced costs of 0 or above. Steps with no square on either side are no edges of
-- inner cells, and nothing flows across them.
pub record Settled (s : Steps) (a : Across) (g : Residual) (flow : ℕ → ℕ → ℤ) : Type 0 where
  pub squares : AreSquares s g
  pub feasible : Feasible g
  pub ready : Ready g flow
  pub across : (u d : ℕ) → is_square s u ≡ true → d < 4 → flow u d ≡ out_by s a u d
  pub meets : (u : ℕ) → is_square s u ≡ true → out flow u ≡ supply s u
  pub one_row : s.high ≡ 1 → (x : ℕ) → a.right x 0 ≡ pos 0
  pub one_column : s.wide ≡ 1 → (y : ℕ) → a.below 0 y ≡ pos 0

-- The heights of a settled flow cost what the flow does, and no heights cost less, as its potentials certify.
pub record Certified (s : Steps) (a : Across) (potential : ℕ → ℤ) : Type 0 where
  pub feasible : IsDualFeasible s (potentials_by s potential)
  pub reached : pos (heights_cost s (heights_by s a)) ≡ dual_value s (potentials_by s potential)
  pub least : (h : Heights) → heights_cost s (heights_by s a) ≤ heights_cost s h
  pub cost : heights_cost s (heights_by s a) ≡ flow_cost s a

-- the price of each step stands at both ends of its edge
pub record Priced (s : Steps) (cost : ℕ → ℕ → ℤ) : Type 0 where
  pub right : (x y : ℕ) → x < s.wide → suc y < s.high → cost (cell s x (suc y)) 0 ≡ pos (s.below x y)
  pub left : (x y : ℕ) → x < s.wide → suc y < s.high → cost (cell s (suc x) (suc y)) 1 ≡ pos (s.below x y)
  pub up : (x y : ℕ) → suc x < s.wide → y < s.high → cost (cell s (suc x) (suc y)) 2 ≡ pos (s.right x y)
  pub down : (x y : ℕ) → suc x < s.wide → y < s.high → cost (cell s (suc x) y) 3 ≡ pos (s.right x y)

-- a network as it is before anything flows
pub record Unsolved (s : Steps) (g : Residual) : Type 0 where
  pub inner : (u : ℕ) → g.inner u ≡ is_square s u
  pub head : (u d : ℕ) → g.head u d ≡ head (stride s) u d
  pub priced : Priced s g.cost
  pub flat : (u : ℕ) → g.potential u ≡ pos 0
  pub excess : (u : ℕ) → is_square s u ≡ true → g.excess u ≡ supply s u

-- a network whose reduced costs are 0 or above, with what flows there
pub record IsSound (s : Steps) (g : Residual) (flow : ℕ → ℕ → ℤ) : Type 0 where
  pub squares : AreSquares s g
  pub feasible : Feasible g
  pub ready : Ready g flow
