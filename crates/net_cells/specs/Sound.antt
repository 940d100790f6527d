-- A flow between cells with potentials, as it stands between any two steps of the solver.
use Rattle.std.specs.Prelude.{◌≡◌, ℕ, ◌+◌, ◌-◌, ◌^◌, ◌<◌, ◌≤◌, List, length, true, false, ℤ, pos, ◌+ℤ◌, ◌≤ℤ◌, unsigned_abs}
use Rattle.net_cells.specs.Net.{Feasible, Ready, out}
use Rattle.net_cells.specs.Moves.{left}
use Rattle.net_cells.specs.Lists.{inner_of, excess_in, cost_in, flow_in, right_of, up_of, view}
use Rattle.net_cells.specs.declared.cell.Cell.{Cell}
use Rattle.net_cells.specs.declared.cell.Costs.{Costs}
use Rattle.net_cells.specs.declared.cell.Flows.{Flows}
use Rattle.net_cells.specs.declared.side.Side.{Side}

-- what is left to send, either way
abbrev pub left_in : List Cell → Side → ℕ
left_in cells side = left (length cells) (inner_of cells) (excess_in cells side)

-- No reduced cost is below 0, potentials outside are 0, the costs are those of the flow; and what is left to send has room beside what flows.
pub record Sound (cells : List Cell) (flows : List Flows) (costs : List Costs) (side : Side) : Type 0 where
  pub lengths : length flows ≡ length cells
  pub feasible : Feasible (view cells costs side)
  pub ready : Ready (view cells costs side) (flow_in flows side)
  pub room : (u d : ℕ) → inner_of cells u ≡ true → d < 4 → unsigned_abs (flow_in flows side u d) + left_in cells side < 2 ^ 62

-- what a cell supplies: what it has in excess, and what flows out
abbrev pub supply_in : List Cell → List Flows → Side → ℕ → ℤ
supply_in cells flows side u = excess_in cells side u +ℤ out (flow_in flows side) u

-- an excess comes nearer to 0, from the side where it was
pub record Shrunk (z z' : ℤ) : Type 0 where
  pub above : pos 0 ≤ℤ z → pos 0 ≤ℤ z'
  pub not_above : z ≤ℤ pos 0 → z' ≤ℤ pos 0
  pub less : unsigned_abs z' ≤ unsigned_abs z

-- What stays while the solver works: cells and prices, what each cell supplies, and what flows between two cells outside. And no more comes
-- to flow anywhere than what is left to send gets less.
pub record Later (cells cells' : List Cell) (flows flows' : List Flows) (costs costs' : List Costs) (side : Side) : Type 0 where
  pub inner : (u : ℕ) → inner_of cells' u ≡ inner_of cells u
  pub price : (u d : ℕ) → inner_of cells u ≡ true → d < 4 → unsigned_abs (cost_in costs' side u d) ≡ unsigned_abs (cost_in costs side u d)
  pub supply : (u : ℕ) → inner_of cells u ≡ true → supply_in cells' flows' side u ≡ supply_in cells flows side u
  pub right : (u : ℕ) → inner_of cells u ≡ false → inner_of cells (u + 1) ≡ false → right_of flows' u ≡ right_of flows u
  pub up : (u : ℕ) → inner_of cells u ≡ false → inner_of cells (u - side.stride) ≡ false → up_of flows' u ≡ up_of flows u
  pub shrunk : (u : ℕ) → inner_of cells u ≡ true → Shrunk (excess_in cells side u) (excess_in cells' side u)
  pub few : (u d : ℕ) → inner_of cells u ≡ true → d < 4 →
      unsigned_abs (flow_in flows' side u d) + left_in cells' side ≤ unsigned_abs (flow_in flows side u d) + left_in cells side
