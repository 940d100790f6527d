use Rattle.net_theory.proofs.Cheapest.{priced_cheapest}
use Rattle.net_theory.proofs.reduced_cost_optimal_is_cheapest.Goals as goal

pub returns : goal.returns
returns c = priced_cheapest
