-- Lists of cells, costs and flows.
use Rattle.std.specs.Prelude.{◌≡◌, ℕ, ◌+◌, ◌-◌, ◌^◌, Bool, true, false, if◌then◌else◌, List, ℤ, pos, neg_ℤ, slice_index_or}
use Rattle.net_cells.specs.Net.{of_four, back, Residual}
use Rattle.net_cells.specs.declared.cell.Cell.{Cell}
use Rattle.net_cells.specs.declared.cell.Costs.{Costs}
use Rattle.net_cells.specs.declared.cell.Flows.{Flows}
use Rattle.net_cells.specs.declared.side.Side.{Side}
use Rattle.net_cells.specs.declared.way.Way.{Way}
use Rattle.net_cells.specs.declared.way.Way.TheVariants.{Right, Left, Up, Down}

abbrev pub number : Way → ℕ
number Right = 0
number Left = 1
number Up = 2
number Down = 3

-- a number as it is seen
abbrev pub signed : Bool → ℤ → ℤ
signed true z = neg_ℤ z
signed false z = z

abbrev pub no_cell : Cell
no_cell = record { excess = pos 0; potential = pos 0; inner = false }

abbrev pub inner_of : List Cell → ℕ → Bool
inner_of cells v = (slice_index_or cells v no_cell).inner

abbrev pub excess_of : List Cell → ℕ → ℤ
excess_of cells v = (slice_index_or cells v no_cell).excess

abbrev pub potential_of : List Cell → ℕ → ℤ
potential_of cells v = (slice_index_or cells v no_cell).potential

abbrev pub no_costs : Costs
no_costs = record { right = pos 0; left = pos 0; up = pos 0; down = pos 0 }

abbrev pub cost_of : List Costs → ℕ → ℕ → ℤ
cost_of costs u d =
    of_four d (slice_index_or costs u no_costs).right (slice_index_or costs u no_costs).left (slice_index_or costs u no_costs).up (slice_index_or costs u no_costs).down

abbrev pub no_flows : Flows
no_flows = record { right = pos 0; up = pos 0 }

abbrev pub right_of : List Flows → ℕ → ℤ
right_of flows u = (slice_index_or flows u no_flows).right

abbrev pub up_of : List Flows → ℕ → ℤ
up_of flows u = (slice_index_or flows u no_flows).up

-- the neighbour by each way, in rows of s cells
unfoldable pub head : ℕ → ℕ → ℕ → ℕ
head s u d = of_four d (u + 1) (u - 1) (u - s) (u + s)

-- what flows out by each way
unfoldable pub flow_of : List Flows → ℕ → ℕ → ℕ → ℤ
flow_of flows s u d = of_four d (right_of flows u) (neg_ℤ (right_of flows (u - 1))) (up_of flows u) (neg_ℤ (up_of flows (u + s)))

-- each as it is seen from a side
unfoldable pub excess_in : List Cell → Side → ℕ → ℤ
excess_in cells side v = signed side.back (excess_of cells v)

unfoldable pub potential_in : List Cell → Side → ℕ → ℤ
potential_in cells side v = signed side.back (potential_of cells v)

unfoldable pub cost_in : List Costs → Side → ℕ → ℕ → ℤ
cost_in costs side u d = if side.back then cost_of costs (head side.stride u d) (back d) else cost_of costs u d

unfoldable pub flow_in : List Flows → Side → ℕ → ℕ → ℤ
flow_in flows side u d = signed side.back (flow_of flows side.stride u d)

-- what a search sees
abbrev pub view : List Cell → List Costs → Side → Residual
view cells costs side =
    record { inner = inner_of cells; head = head side.stride; cost = cost_in costs side; excess = excess_in cells side; potential = potential_in cells side }
