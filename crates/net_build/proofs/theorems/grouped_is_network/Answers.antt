use Rattle.net_build.proofs.Grouping.{grouped_is_network}
use Rattle.net_build.proofs.theorems.grouped_is_network.Goals as goal

pub returns : goal.returns
returns c = grouped_is_network
