-- What is written where something flows over an edge.
use Rattle.std.specs.Prelude.{◌≡◌, ℕ, ◌+◌, ◌-◌, ◌<◌, ◌≢◌, List, ℤ, pos, ◌+ℤ◌, ◌-ℤ◌, neg_ℤ, unsigned_abs}
use Rattle.net_cells.specs.Net.{back, unit}
use Rattle.net_cells.specs.Lists.{head, right_of, up_of, flow_of, flow_in, cost_of, cost_in}
use Rattle.net_cells.specs.declared.cell.Costs.{Costs}
use Rattle.net_cells.specs.declared.cell.Flows.{Flows}
use Rattle.net_cells.specs.declared.side.Side.{Side}

-- z more flows out of u by way d
pub record Added (flows flows' : List Flows) (s u d : ℕ) (z : ℤ) : Type 0 where
  pub here : flow_of flows' s u d ≡ flow_of flows s u d +ℤ z
  pub other : (w e : ℕ) → s < w → e < 4 → (w ≡ u → e ≡ d → ⊥) → (w ≡ head s u d → e ≡ back d → ⊥) → flow_of flows' s w e ≡ flow_of flows s w e
  pub right : (w : ℕ) → (w ≢ u) → (w + 1 ≢ u) → right_of flows' w ≡ right_of flows w
  pub up : (w : ℕ) → (w ≢ u) → (w - s ≢ u) → up_of flows' w ≡ up_of flows w

-- a unit more costs c by way d of u
pub record SetCost (costs costs' : List Costs) (u d : ℕ) (c : ℤ) : Type 0 where
  pub here : cost_of costs' u d ≡ c
  pub other : (w e : ℕ) → e < 4 → (w ≡ u → e ≡ d → ⊥) → cost_of costs' w e ≡ cost_of costs w e

-- a has gone along way d of u, as it is seen, and the costs of that edge are made ready
pub record Pushed (flows flows' : List Flows) (costs costs' : List Costs) (side : Side) (u d : ℕ) (a : ℤ) : Type 0 where
  pub here : flow_in flows' side u d ≡ flow_in flows side u d +ℤ a
  pub there : flow_in flows' side (head side.stride u d) (back d) ≡ flow_in flows side (head side.stride u d) (back d) -ℤ a
  pub other : (w e : ℕ) → side.stride < w → e < 4 → (w ≡ u → e ≡ d → ⊥) → (w ≡ head side.stride u d → e ≡ back d → ⊥) → flow_in flows' side w e ≡ flow_in flows side w e
  pub cost_here : cost_in costs' side u d ≡ unit (unsigned_abs (cost_in costs side u d)) (flow_in flows' side u d)
  pub cost_there : cost_in costs' side (head side.stride u d) (back d) ≡ unit (unsigned_abs (cost_in costs side u d)) (neg_ℤ (flow_in flows' side u d))
  pub cost_other : (w e : ℕ) → e < 4 → (w ≡ u → e ≡ d → ⊥) → (w ≡ head side.stride u d → e ≡ back d → ⊥) → cost_in costs' side w e ≡ cost_in costs side w e
  pub right : (w : ℕ) → (w ≢ u) → (w + 1 ≢ u) → right_of flows' w ≡ right_of flows w
  pub up : (w : ℕ) → (w ≢ u) → (w - side.stride ≢ u) → up_of flows' w ≡ up_of flows w
