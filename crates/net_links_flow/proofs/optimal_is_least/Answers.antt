use Rattle.net_links_flow.proofs.Least.{optimal_is_least}
use Rattle.net_links_flow.proofs.optimal_is_least.Goals as goal

pub returns : goal.returns
returns c = optimal_is_least
