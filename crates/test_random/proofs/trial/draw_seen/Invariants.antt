use Rattle.std.proofs.Common.{◌≡◌, ℕ, ◌<◌, length, get_or}
use Rattle.test_random.proofs.trial.draw_seen.Given as goal

abbrev pub invariant-loop-number : goal.invariant-loop-number
invariant-loop-number l = (length l.number-items ≡ 6) × ((k : ℕ) → k < l.number-index → get_or l.number-items k 0 < l.turn)
