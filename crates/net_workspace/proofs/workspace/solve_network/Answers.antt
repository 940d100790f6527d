use Rattle.std.proofs.Common.{rules}
use Rattle.net_workspace.proofs.Left.{left_behind}
use Rattle.net_workspace.proofs.workspace.solve_network.Goals as goal

pub returns : goal.returns
returns c = left_behind _ _ c.solve_in.new.flow c.solve_in.new.labels _ _ _ _ (search rules) (search rules) (search rules) c.solve_in.ensures.solution
