-- Steps with flows across them, and what they cost.
use Rattle.std.specs.Prelude.{◌≡◌, ℕ, suc, pred, ◌+◌, ◌*◌, ◌<◌, ◌≤◌, List, ℤ, slice_index_or, pos, unsigned_abs}
use Rattle.phase_field.specs.Field.{Field, turns_in}
use Rattle.phase_field.specs.Model.{turns_right, turns_below}
use Rattle.phase_cost.specs.Steps.{Heights, heights_cost, steps_in}
use Rattle.phase_turns.specs.Follow.{StepsWithin}
use Rattle.squares_cells.specs.Squares.{Across, heights_by}
use Rattle.squares_solve.specs.Flows.{Added}

-- lists have the turns that are expected of the steps of a field
pub record ExpectedIn (f : Field) (right below : List ℤ) : Type 0 where
  pub right_at : (x y : ℕ) → suc x < f.wide → y < f.high → turns_in f.wide right x y ≡ turns_right f x y
  pub below_at : (x y : ℕ) → x < f.wide → suc y < f.high → turns_in f.wide below x y ≡ turns_below f x y
  pub right_small : (k : ℕ) → unsigned_abs (slice_index_or right k (pos 0)) ≤ 1
  pub below_small : (k : ℕ) → unsigned_abs (slice_index_or below k (pos 0)) ≤ 1

-- the most turns, either way, of a place in so many columns and rows: as many steps as columns and rows together, each of as many turns as there
-- are cells, and one that is expected
abbrev pub most_turns : (wide high : ℕ) → ℕ
most_turns w h = (w + h) * (1 + (h + 1) * (w + 1))

-- to steps is added what flows across them, at so much, and no heights cost less than those it makes; no step is then of more turns than there
-- are cells, and one that is expected
pub record Crossed (f : Field) (right below right' below' : List ℤ) (told : ℕ) : Type 0 where
  pub across : Across
  pub to_right : Added f.wide (pred f.wide) f.high across.right right right'
  pub to_below : Added f.wide f.wide (pred f.high) across.below below below'
  pub few : StepsWithin (1 + (f.high + 1) * (f.wide + 1)) f.wide f.high right' below'
  pub cost : told ≡ heights_cost (steps_in f right below) (heights_by (steps_in f right below) across)
  pub least : (h : Heights) → heights_cost (steps_in f right below) (heights_by (steps_in f right below) across) ≤ heights_cost (steps_in f right below) h
