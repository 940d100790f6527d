-- A way along which an amount goes.
use Rattle.std.specs.Prelude.{◌≡◌, ℕ, zero, suc, ◌+◌, ◌-◌, ◌<◌, ◌≤◌, ◌==◌, if◌then◌else◌, List, length, ◌≢◌, true, false, ℤ, pos, ◌+ℤ◌, ◌-ℤ◌, ◌≤ℤ◌, ◌<ℤ◌, neg_ℤ, unsigned_abs}
use Rattle.net_cells.specs.Net.{Residual, Feasible, Ready, back, out}
use Rattle.net_cells.specs.Search.{Step, Track}
use Rattle.net_cells.specs.Moves.{Fits, at}
use Rattle.net_cells.specs.Lists.{view, head, inner_of, excess_in, potential_in, flow_in, cost_in, right_of, up_of}
use Rattle.net_cells.specs.declared.cell.Cell.{Cell}
use Rattle.net_cells.specs.declared.cell.Costs.{Costs}
use Rattle.net_cells.specs.declared.cell.Flows.{Flows}
use Rattle.net_cells.specs.declared.cell.Mark.{Mark}
use Rattle.net_cells.specs.declared.side.Side.{Side}
use Rattle.net_cells_search.specs.Marks.{way_of}

-- the cell from which the last step to x was taken
abbrev pub tail : ℕ → List Mark → ℕ → ℕ
tail s marks x = head s x (back (way_of marks x))

-- a step along which an amount can go; what flows there is what flowed at first
pub record Goes (g : Residual) (flow0 flow : ℕ → ℕ → ℤ) (from way : ℕ → ℕ) (a : ℤ) (x : ℕ) : Type 0 where
  pub step : Step g from way x
  pub fits : Fits a (flow0 (from x) (way x))
  pub same : flow (from x) (way x) ≡ flow0 (from x) (way x)

-- a way from the source to v of such steps
abbrev pub Sendable : List Cell → List Flows → List Flows → List Costs → Side → List Mark → ℕ → ℤ → ℕ → Type 0
Sendable cells flows0 flows costs side marks source a v =
    (n : ℕ) × Track source (tail side.stride marks) (Goes (view cells costs side) (flow_in flows0 side) (flow_in flows side) (tail side.stride marks) (way_of marks) a) v n

-- how many steps v is from the source, if that is less than the first number
unfoldable pub depth : ℕ → ℕ → (ℕ → ℕ) → ℕ → ℕ
depth zero source from v = 0
depth (suc n) source from v = if v == source then 0 else suc (depth n source from (from v))

-- the last step to x comes from an inner cell
pub record Leads (cells : List Cell) (side : Side) (marks : List Mark) (x : ℕ) : Type 0 where
  pub inner : inner_of cells (tail side.stride marks x) ≡ true
  pub is_way : way_of marks x < 4
  pub head : head side.stride (tail side.stride marks x) (way_of marks x) ≡ x

-- and an amount can go by it
pub record Takes (cells : List Cell) (flows : List Flows) (side : Side) (marks : List Mark) (a : ℤ) (x : ℕ) : Type 0 where
  pub leads : Leads cells side marks x
  pub fits : Fits a (flow_in flows side (tail side.stride marks x) (way_of marks x))

abbrev pub LeadsTo : List Cell → Side → List Mark → ℕ → ℕ → Type 0
LeadsTo cells side marks source v = (n : ℕ) × Track source (tail side.stride marks) (Leads cells side marks) v n

abbrev pub TakesTo : List Cell → List Flows → Side → List Mark → ℕ → ℤ → ℕ → Type 0
TakesTo cells flows side marks source a v = (n : ℕ) × Track source (tail side.stride marks) (Takes cells flows side marks a) v n

-- so much can go from the source to the target, as far as the steps from v on tell
pub record Most (cells : List Cell) (flows : List Flows) (side : Side) (marks : List Mark) (source target v : ℕ) (least : ℤ) : Type 0 where
  pub cell : v < length cells
  pub leads : LeadsTo cells side marks source v
  pub some : pos 0 <ℤ least
  pub enough : least ≤ℤ excess_in cells side source
  pub wanted : inner_of cells target ≡ true → least ≤ℤ neg_ℤ (excess_in cells side target)
  pub rest : (b : ℤ) → pos 0 ≤ℤ b → b ≤ℤ least → TakesTo cells flows side marks source b v → TakesTo cells flows side marks source b target

-- what was sent is taken off the excess of the source, and added to that of the target, if that is no cell outside
pub record Accounted (cells cells' : List Cell) (side : Side) (source target : ℕ) (a : ℤ) : Type 0 where
  pub from : excess_in cells' side source ≡ excess_in cells side source -ℤ a
  pub to : inner_of cells target ≡ true → excess_in cells' side target ≡ excess_in cells side target +ℤ a
  pub kept : (w : ℕ) → (w ≢ source) → (w ≢ target) → excess_in cells' side w ≡ excess_in cells side w
  pub inner : (w : ℕ) → inner_of cells' w ≡ inner_of cells w
  pub potential : (w : ℕ) → potential_in cells' side w ≡ potential_in cells side w

-- the amount has come from v to the target
pub record Sending (cells : List Cell) (flows0 flows : List Flows) (costs0 costs : List Costs) (side : Side) (marks : List Mark) (source target v : ℕ) (a : ℤ) : Type 0 where
  pub cell : v < length cells
  pub feasible : Feasible (view cells costs side)
  pub ready : Ready (view cells costs side) (flow_in flows side)
  pub track : Sendable cells flows0 flows costs side marks source a v
  pub price : (u d : ℕ) → inner_of cells u ≡ true → d < 4 → unsigned_abs (cost_in costs side u d) ≡ unsigned_abs (cost_in costs0 side u d)
  pub grown : (u d : ℕ) → inner_of cells u ≡ true → d < 4 → unsigned_abs (flow_in flows side u d) ≤ unsigned_abs (flow_in flows0 side u d) + unsigned_abs a
  pub flows_out : (u : ℕ) → inner_of cells u ≡ true → out (flow_in flows side) u ≡ (out (flow_in flows0 side) u +ℤ at v a u) -ℤ at target a u
  pub right : (u : ℕ) → inner_of cells u ≡ false → inner_of cells (u + 1) ≡ false → right_of flows u ≡ right_of flows0 u
  pub up : (u : ℕ) → inner_of cells u ≡ false → inner_of cells (u - side.stride) ≡ false → up_of flows u ≡ up_of flows0 u
