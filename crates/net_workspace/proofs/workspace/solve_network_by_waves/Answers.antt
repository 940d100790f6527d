use Rattle.std.proofs.Common.{rules}
use Rattle.net_workspace.proofs.Left.{optimum_left}
use Rattle.net_workspace.proofs.workspace.solve_network_by_waves.Goals as goal

pub returns : goal.returns
returns c = optimum_left _ _ c.solve_by_waves.new.flow c.solve_by_waves.new.search.labels.now _ _ _ _ (search rules) (search rules) (search rules) c.solve_by_waves.ensures.optimum
