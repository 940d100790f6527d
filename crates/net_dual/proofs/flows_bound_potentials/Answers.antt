use Rattle.net_dual.proofs.Dual.{flows_bound_potentials}
use Rattle.net_dual.proofs.flows_bound_potentials.Goals as goal

pub returns : goal.returns
returns c = flows_bound_potentials
