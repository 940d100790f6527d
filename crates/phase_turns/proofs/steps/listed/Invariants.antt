use Rattle.std.proofs.Common.{◌≡◌, ℕ, ◌<◌, ◌≤◌, length, get_or, pos}
use Rattle.phase_turns.proofs.steps.listed.Given as goal

abbrev pub invariant-loop-place : goal.invariant-loop-place
invariant-loop-place g l = record {
  callable : goal.F-IsAlwaysCallable g l.told;
  long : length l.all ≡ 4096;
  told : (p : ℕ) → p < l.place → goal.F-post g l.told p (get_or l.all p (pos 0));
  none : (p : ℕ) → l.place ≤ p → get_or l.all p (pos 0) ≡ pos 0;
}
