use Rattle.std.proofs.Common.{◌≡◌, ℕ, ◌<◌, ◌≤◌, length, get_or}
use Rattle.test_random.proofs.draw.Prices.draw_six.Given as goal

abbrev pub invariant-loop-price : goal.invariant-loop-price
invariant-loop-price l = (length l.price-items ≡ 6) × ((k : ℕ) → k < l.price-index → get_or l.price-items k 0 ≤ 1000)
