use Rattle.std.proofs.Common.{ℕ, ◌≤◌, arith}
use Rattle.test_random.proofs.Filling.{one_drawn}
use Rattle.test_random.proofs.draw.Prices.draw_six.Goals as goal

pub loop-price-preserved : goal.loop-price-preserved
loop-price-preserved c =
    one_drawn (λ (v : ℕ). v ≤ 1000) c.loop-price.price-items c.loop-price.price-index c.draw.result c.loop-price.invariant.0 (omega arith) c.loop-price.invariant.1 c.draw.ensures
