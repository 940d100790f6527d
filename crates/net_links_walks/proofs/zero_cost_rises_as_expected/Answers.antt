use Rattle.net_links_walks.proofs.Walks.{zero_cost_rises_as_expected}
use Rattle.net_links_walks.proofs.zero_cost_rises_as_expected.Goals as goal

pub returns : goal.returns
returns c = zero_cost_rises_as_expected
