use Rattle.std.proofs.Common.{ℕ, ◌<◌, arith}
use Rattle.test_random.proofs.Filling.{one_drawn}
use Rattle.test_random.proofs.trial.draw_seen.Goals as goal

pub loop-number-preserved : goal.loop-number-preserved
loop-number-preserved c =
    one_drawn (λ (v : ℕ). v < c.args.turn) c.loop-number.number-items c.loop-number.number-index c.below.result c.loop-number.invariant.0 (omega arith) c.loop-number.invariant.1 c.below.ensures
