use Rattle.net_links.proofs.Dear.{dear_link_holds}
use Rattle.net_links.proofs.dear_link_holds.Goals as goal

pub returns : goal.returns
returns c = dear_link_holds
