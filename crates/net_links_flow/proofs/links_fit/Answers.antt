use Rattle.net_links_flow.proofs.Fit.{links_fit}
use Rattle.net_links_flow.proofs.links_fit.Goals as goal

pub returns : goal.returns
returns c = links_fit
