-- By the lemma of that name.
use Rattle.net_cells_theory.proofs.Lower.{lowering_keeps}
use Rattle.net_cells_theory.proofs.lowering_keeps.Goals as goal

pub returns : goal.returns
returns c = lowering_keeps
