-- Potentials of the squares show that no heights cost less than their value, and that heights that reach it cost least.
use Rattle.phase_cost.proofs.Certificate.{certified_heights}
use Rattle.phase_cost.proofs.certified_heights.Goals as goal

pub returns : goal.returns
returns c = certified_heights
