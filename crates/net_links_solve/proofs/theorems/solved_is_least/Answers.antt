use Rattle.net_links_solve.proofs.Solved.{solved_is_least}
use Rattle.net_links_solve.proofs.theorems.solved_is_least.Goals as goal

pub returns : goal.returns
returns c = solved_is_least
