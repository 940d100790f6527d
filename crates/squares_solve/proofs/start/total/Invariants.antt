use Rattle.std.proofs.Common.{◌*◌, ◌≤◌}
use Rattle.squares_solve.proofs.start.total.Given as goal

abbrev pub invariant-loop-price : goal.invariant-loop-price
invariant-loop-price l = l.sum ≤ 1000 * l.price-index
