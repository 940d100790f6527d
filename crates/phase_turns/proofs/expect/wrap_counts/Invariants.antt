use Rattle.std.proofs.Common.{◌≡◌, ℕ, ◌<◌, ◌≤◌, get_or, pos, ◌-ℤ◌, nat_abs}
use Rattle.phase_field.specs.Field.{wrap_count}
use Rattle.phase_turns.proofs.expect.wrap_counts.Given as goal

abbrev pub invariant-loop-k : goal.invariant-loop-k
invariant-loop-k l = record {
  is : (i : ℕ) → i < l.k → get_or l.counts i (pos 0) ≡ wrap_count l.turn (pos (get_or l.to i 0) -ℤ pos (get_or l.from i 0));
  small : (i : ℕ) → i < l.k → nat_abs (get_or l.counts i (pos 0)) ≤ 1;
}
