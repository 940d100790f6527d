-- What is true of the squares of expected steps. The statements are types, each the contract of a function of its name.
use Rattle.std.specs.Prelude.{◌≡◌, ℕ, suc, ◌*◌, ◌<◌, ◌≤◌, true, List, ℤ, pos, unsigned_abs}
use Rattle.phase_field.specs.Field.{Field}
use Rattle.phase_cost.specs.Cost.{cost, Least}
use Rattle.phase_cost.specs.Steps.{Steps, residue, turn_steps}
use Rattle.net_cells.specs.Net.{Residual, Paired}
use Rattle.net_cells.specs.Search.{Away}
use Rattle.net_cells.specs.Moves.{left}
use Rattle.net_cells.specs.Lists.{flow_of}
use Rattle.net_cells.specs.declared.cell.Flows.{Flows}
use Rattle.squares_cells.specs.Squares.{stride, cells, is_square, supply, Across, out_by, across, flow_cost, heights_by, AreSquares, Settled, Certified, Unsolved, IsSound}

-- by each way out of a square one comes to another cell, and back
abbrev pub SquaresPaired : Type 0
SquaresPaired = (s : Steps) (g : Residual) → AreSquares s g → Paired g

-- outside is at most half the steps' width away from a square, and at most half their height
abbrev pub SquaresAway : Type 0
SquaresAway =
    (s : Steps) (g : Residual) (u : ℕ) → AreSquares s g → is_square s u ≡ true →
    ((n : ℕ) × (2 * n ≤ s.wide) × Away g n u) × ((n : ℕ) × (2 * n ≤ s.high) × Away g n u)

-- where no residue is more than k either way, squares supply no more than k for each cell
abbrev pub SuppliesFew : Type 0
SuppliesFew =
    (s : Steps) (k : ℕ) → ((x y : ℕ) → suc x < s.wide → suc y < s.high → unsigned_abs (residue s x y) ≤ k) →
    left (cells s) (is_square s) (supply s) ≤ cells s * k

-- what flows out of a square, as lists of cells say it, flows across its steps
abbrev pub FlowsAcross : Type 0
FlowsAcross =
    (s : Steps) (flows : List Flows) (u d : ℕ) → is_square s u ≡ true → d < 4 → flow_of flows (stride s) u d ≡ out_by s (across s flows) u d

-- the heights of a settled flow cost least
abbrev pub SettledIsLeast : Type 0
SettledIsLeast = (s : Steps) (a : Across) (g : Residual) (flow : ℕ → ℕ → ℤ) → Settled s a g flow → Certified s a g.potential

-- over the steps of a field, in whole turns, these are turns that cost least
abbrev pub SettledTurns : Type 0
SettledTurns =
    (f : Field) (a : Across) (g : Residual) (flow : ℕ → ℕ → ℤ) → Settled (turn_steps f) a g flow →
    Least f (heights_by (turn_steps f) a)
    × (cost f (heights_by (turn_steps f) a) ≡ f.turn * flow_cost (turn_steps f) a)

-- before anything flows no reduced cost is below 0
abbrev pub UnsolvedIsSound : Type 0
UnsolvedIsSound = (s : Steps) (g : Residual) → Unsolved s g → IsSound s g (λ u d. pos 0)
