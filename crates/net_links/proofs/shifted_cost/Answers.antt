use Rattle.net_links.proofs.Cost.{shifted_cost}
use Rattle.net_links.proofs.shifted_cost.Goals as goal

pub returns : goal.returns
returns c = shifted_cost
