-- New potentials, and what a state has to be sound with them.
use Rattle.std.specs.Prelude.{◌≡◌, ℕ, ◌*◌, ◌^◌, ◌<◌, ◌≤◌, List, ℤ, pos, ◌≤ℤ◌, ◌<ℤ◌, false, slice_index_or, unsigned_abs}
use Rattle.net_graph.specs.Graph.{Graph, reduced_cost}
use Rattle.net_graph.specs.Sound.{State}
use Rattle.net_waves.specs.declared.slices.Height.{Height}

-- what is read past the end of a list of heights
abbrev pub no_height : Height
no_height = record { level = 0; waits = false; distance = pos 0 }

abbrev pub distance_of : List Height → ℕ → ℤ
distance_of heights v = (slice_index_or heights v no_height).distance

-- node v may have the potential p v: it is not too large, and 0 where there is a deficit
pub record FitsNode (n : ℕ) (s : State) (p : ℕ → ℤ) (v : ℕ) : Type 0 where
  pub bounded : unsigned_abs (p v) ≤ 2 ^ 31 * n
  pub deficit : s.excess v <ℤ pos 0 → p v ≡ pos 0

abbrev pub FitsNodes : ℕ → State → (ℕ → ℤ) → Type 0
FitsNodes n s p = (v : ℕ) → v < n → FitsNode n s p v

-- if arc a can take more, a unit costs at least nothing by the potentials p
abbrev pub FitsArc : Graph → State → (ℕ → ℤ) → ℕ → Type 0
FitsArc g s p a = s.flow a <ℤ g.limit a → pos 0 ≤ℤ reduced_cost g s.flow p a

abbrev pub FitsArcs : Graph → State → (ℕ → ℤ) → Type 0
FitsArcs g s p = (a : ℕ) → a < g.arcs → FitsArc g s p a
