use Rattle.std.proofs.Common.{◌≡◌, ℕ, ◌<◌, ◌≤◌, ◌≢◌, length, pos, slice_index, true}
use Rattle.net_cells.specs.Lists.{inner_of, excess_of}
use Rattle.net_cells_solve.proofs.rounds.keep.Given as goal

abbrev pub invariant-loop-k : goal.invariant-loop-k
invariant-loop-k l = record {
  few : l.kept ≤ l.k;
  within : (j : ℕ) → j < l.kept → slice_index l.list j < length l.cells;
  inner : (j : ℕ) → j < l.kept → inner_of l.cells (slice_index l.list j) ≡ true;
  rest : (j : ℕ) → l.k ≤ j → slice_index l.list j ≡ slice_index l.initial.list j;
  covers : (i : ℕ) → i < l.k → (excess_of l.cells (slice_index l.initial.list i) ≢ pos 0) → (j : ℕ) × ((j < l.kept) × (slice_index l.list j ≡ slice_index l.initial.list i));
}
