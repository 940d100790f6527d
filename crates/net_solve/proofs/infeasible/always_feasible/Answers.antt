use Rattle.net_solve.proofs.Optimality.{never}
use Rattle.net_solve.proofs.infeasible.always_feasible.Goals as goal

pub returns : goal.returns
returns c = never
