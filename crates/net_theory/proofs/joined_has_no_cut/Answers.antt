use Rattle.net_theory.proofs.Crossing.{joined_never_full}
use Rattle.net_theory.proofs.joined_has_no_cut.Goals as goal

pub returns : goal.returns
returns c = joined_never_full
