use Rattle.phase_cost.proofs.Integral.{round_residue}
use Rattle.phase_cost.proofs.residue_turns.Goals as goal

pub returns : goal.returns
returns c = round_residue
