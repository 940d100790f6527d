use Rattle.net_links.proofs.Certificate.{certified_is_least}
use Rattle.net_links.proofs.certified_is_least.Goals as goal

pub returns : goal.returns
returns c = certified_is_least
