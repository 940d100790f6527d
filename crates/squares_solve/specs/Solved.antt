-- What a flow between squares is asked for.
use Rattle.std.specs.Prelude.{◌≡◌, ℕ, suc, ◌*◌, ◌^◌, ◌<◌, ◌≤◌, true, List, length, pos, unsigned_abs}
use Rattle.phase_cost.specs.Steps.{Steps, Heights, heights_cost}
use Rattle.net_cells.specs.declared.cell.Flows.{Flows}
use Rattle.net_cells.specs.declared.cell.Cell.{Cell}
use Rattle.net_cells.specs.declared.cell.Costs.{Costs}
use Rattle.net_cells.specs.Net.{Feasible, Ready}
use Rattle.net_cells.specs.Lists.{inner_of, excess_in, cost_in, flow_in, view, right_of, up_of}
use Rattle.net_cells.specs.Sound.{supply_in}
use Rattle.net_cells_solve.specs.Listing.{ahead}
use Rattle.net_cells_search.specs.Marks.{Blank}
use Rattle.net_cells_search.specs.Room.{RoomFor}
use Rattle.squares_solve.specs.declared.solver.Room.{Room}
use Rattle.squares_cells.specs.Squares.{stride, cells, is_square, supply, price_by, across, heights_by}
use Rattle.squares_solve.specs.Flows.{Within}

-- the heights that it makes cost so much, and none cost less; and no more flows across any step than there are cells
pub record Solved (s : Steps) (flows : List Flows) (cost : ℕ) : Type 0 where
  pub cost_is : cost ≡ heights_cost s (heights_by s (across s flows))
  pub least : (h : Heights) → heights_cost s (heights_by s (across s flows)) ≤ heights_cost s h
  pub within : Within (2 ^ 19) s (across s flows)
  pub few : Within (cells s) s (across s flows)

-- nothing flows
pub record NoFlow (flows : List Flows) : Type 0 where
  pub right : (u : ℕ) → right_of flows u ≡ pos 0
  pub up : (u : ℕ) → up_of flows u ≡ pos 0

-- a room for n cells, in which nothing flows and no cell has a label
pub record RoomOf (n : ℕ) (r : Room) : Type 0 where
  pub cells : length r.cells.now ≡ n
  pub costs : length r.costs.now ≡ n
  pub flows : length r.flows.now ≡ n
  pub list : length r.list.now ≡ n
  pub search : RoomFor n r.search
  pub blank : Blank r.search.marks.now
  pub none : NoFlow r.flows.now

-- a flow that has settled, and no more across any step than there are cells
pub record Ended (s : Steps) (cells : List Cell) (flows : List Flows) (costs : List Costs) : Type 0 where
  pub inner : (u : ℕ) → inner_of cells u ≡ is_square s u
  pub feasible : Feasible (view cells costs (ahead (stride s)))
  pub ready : Ready (view cells costs (ahead (stride s))) (flow_in flows (ahead (stride s)))
  pub price : (u d : ℕ) → is_square s u ≡ true → d < 4 → unsigned_abs (cost_in costs (ahead (stride s)) u d) ≡ price_by s u d
  pub supply : (u : ℕ) → is_square s u ≡ true → supply_in cells flows (ahead (stride s)) u ≡ supply s u
  pub none : (u : ℕ) → is_square s u ≡ true → excess_in cells (ahead (stride s)) u ≡ pos 0
  pub small : (u d : ℕ) → is_square s u ≡ true → d < 4 → unsigned_abs (flow_in flows (ahead (stride s)) u d) ≤ suc s.high * stride s
  pub size : suc s.high * stride s ≤ 263169
  pub wide : 2 ≤ s.wide
  pub high : 2 ≤ s.high

-- with some potentials and costs
pub record EndedBy (s : Steps) (flows : List Flows) : Type 0 where
  pub cells : List Cell
  pub costs : List Costs
  pub ended : Ended s cells flows costs
