use Rattle.net_links.proofs.Certificate.{circulation_bounds_cost}
use Rattle.net_links.proofs.circulation_bounds_cost.Goals as goal

pub returns : goal.returns
returns c = circulation_bounds_cost
