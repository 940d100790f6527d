use Rattle.net_links_walks.proofs.Parts.{zero_cost_iff_closed_walks_vanish}
use Rattle.net_links_walks.proofs.zero_cost_iff_closed_walks_vanish.Goals as goal

pub returns : goal.returns
returns c = zero_cost_iff_closed_walks_vanish
