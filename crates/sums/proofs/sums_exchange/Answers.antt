-- A table adds up to the same by rows and by columns.
use Rattle.sums.proofs.Sum.{sum_ℤ_swap}
use Rattle.sums.proofs.sums_exchange.Goals as goal

pub returns : goal.returns
returns c = sum_ℤ_swap
