use Rattle.std.proofs.Common.{◌≡◌, ℕ, ◌<◌, ◌≤◌, ◌≤ℤ◌, length, slice_index}
use Rattle.net_search.specs.Label.{distance_of}
use Rattle.net_search.proofs.lists.nearest.Given as goal

abbrev pub invariant-loop-k : goal.invariant-loop-k
invariant-loop-k l = record {
  from : l.k ≤ l.best;
  index : l.best < length l.nodes;
  value : l.least ≡ distance_of l.labels (slice_index l.nodes l.best);
  least : (j : ℕ) → l.k ≤ j → j < length l.nodes → l.least ≤ℤ distance_of l.labels (slice_index l.nodes j);
}
