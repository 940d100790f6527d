-- Heights whose every step is within half a turn are found again by any turns that cost least, but for whole turns over all.
use Rattle.phase_cost.proofs.Integral.{found_again}
use Rattle.phase_cost.proofs.found_again.Goals as goal

pub returns : goal.returns
returns c = found_again
