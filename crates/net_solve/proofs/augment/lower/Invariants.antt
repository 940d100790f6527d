use Rattle.std.proofs.Common.{◌≡◌, ℕ, ◌<◌, ◌≤◌, length, slice_index, ◌+ℤ◌, ◌-ℤ◌}
use Rattle.net_graph.specs.Node.{excess_of, potential_of}
use Rattle.net_search.specs.Tree.{tree}
use Rattle.net_solve.proofs.augment.lower.Given as goal

abbrev pub invariant-loop-v : goal.invariant-loop-v
invariant-loop-v l = record {
  long : length l.v-items ≡ l.search.reached;
  items : (k : ℕ) → k < l.search.reached → slice_index l.v-items k ≡ (tree l.search).order k;
  lowered : (v : ℕ) → v < length l.initial.nodes → (tree l.search).place v < l.v-index → potential_of l.nodes v ≡ (potential_of l.initial.nodes v +ℤ ((tree l.search).distance v -ℤ l.search.bound));
  others : (v : ℕ) → v < length l.initial.nodes → l.v-index ≤ (tree l.search).place v → potential_of l.nodes v ≡ potential_of l.initial.nodes v;
  excess : (v : ℕ) → excess_of l.nodes v ≡ excess_of l.initial.nodes v;
}
