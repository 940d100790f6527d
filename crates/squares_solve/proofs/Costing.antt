-- What a flow costs, row by row.
use Rattle.std.proofs.Common.{◌≡◌, ℕ, pred, ◌+◌, refl}
use Rattle.phase_cost.specs.Steps.{Steps, all_steps}
use Rattle.squares_cells.specs.Squares.{Across, flow_cost}
use Rattle.squares_solve.specs.Cost.{step_right_cost, step_below_cost, row_right_cost, row_below_cost, right_cost, below_cost}
use Rattle.squares_solve.proofs.Summing.{SoFar, all_added}

pub row_right_is : (s : Steps) (a : Across) (y most n all : ℕ) → SoFar (step_right_cost s a y) most n all → n ≡ pred s.wide → all ≡ row_right_cost s a y
unfolding row_right_cost
row_right_is s a y most n all f e = all_added (step_right_cost s a y) most n all (pred s.wide) f e

pub row_below_is : (s : Steps) (a : Across) (y most n all : ℕ) → SoFar (step_below_cost s a y) most n all → n ≡ s.wide → all ≡ row_below_cost s a y
unfolding row_below_cost
row_below_is s a y most n all f e = all_added (step_below_cost s a y) most n all s.wide f e

pub right_is : (s : Steps) (a : Across) (most n all : ℕ) → SoFar (row_right_cost s a) most n all → n ≡ s.high → all ≡ right_cost s a
unfolding right_cost
right_is s a most n all f e = all_added (row_right_cost s a) most n all s.high f e

pub below_is : (s : Steps) (a : Across) (most n all : ℕ) → SoFar (row_below_cost s a) most n all → n ≡ pred s.high → all ≡ below_cost s a
unfolding below_cost
below_is s a most n all f e = all_added (row_below_cost s a) most n all (pred s.high) f e

pub flow_cost_rows : (s : Steps) (a : Across) → right_cost s a + below_cost s a ≡ flow_cost s a
unfolding right_cost below_cost row_right_cost row_below_cost flow_cost all_steps
flow_cost_rows s a = refl
