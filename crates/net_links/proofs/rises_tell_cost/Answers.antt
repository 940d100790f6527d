use Rattle.net_links.proofs.Cost.{rises_tell_cost}
use Rattle.net_links.proofs.rises_tell_cost.Goals as goal

pub returns : goal.returns
returns c = rises_tell_cost
