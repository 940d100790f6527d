use Rattle.std.proofs.Common.{ℕ, ◌<◌, ◌≤◌, get_or}
use Rattle.phase_input.proofs.input.first_wrong.Given as goal

abbrev pub invariant-loop-i : goal.invariant-loop-i
invariant-loop-i l = record {
  placed : l.i ≤ l.places;
  small : (k : ℕ) → k < l.i → get_or l.list k 0 < l.bound;
}
