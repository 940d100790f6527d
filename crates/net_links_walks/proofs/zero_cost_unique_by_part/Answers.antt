use Rattle.net_links_walks.proofs.Walks.{zero_cost_unique_by_part}
use Rattle.net_links_walks.proofs.zero_cost_unique_by_part.Goals as goal

pub returns : goal.returns
returns c = zero_cost_unique_by_part
