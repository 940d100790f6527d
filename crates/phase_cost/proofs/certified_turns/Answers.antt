-- Turns of a field that reach the value cost least.
use Rattle.phase_cost.proofs.Certificate.{certified_turns}
use Rattle.phase_cost.proofs.certified_turns.Goals as goal

pub returns : goal.returns
returns c = certified_turns
