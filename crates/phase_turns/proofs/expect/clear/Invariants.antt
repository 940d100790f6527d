use Rattle.std.proofs.Common.{◌≡◌, ℕ, ◌<◌, ◌≤◌, get_or, pos}
use Rattle.phase_turns.proofs.expect.clear.Given as goal

abbrev pub invariant-loop-k : goal.invariant-loop-k
invariant-loop-k l = record {
  before : (i : ℕ) → i < l.from → get_or l.steps i (pos 0) ≡ get_or l.initial.steps i (pos 0);
  none : (i : ℕ) → l.from ≤ i → i < l.k → get_or l.steps i (pos 0) ≡ pos 0;
}
