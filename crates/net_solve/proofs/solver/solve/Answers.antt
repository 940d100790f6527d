use Rattle.std.proofs.Common.{◌≡◌, ap}
use Rattle.net_graph.specs.Network.{graph}
use Rattle.net_graph.specs.Sound.{state}
use Rattle.net_search.specs.Tree.{tree}
use Rattle.net_solve.proofs.InitialFlow.{solved}
use Rattle.net_solve.proofs.Optimality.{meaning}
use Rattle.net_solve.proofs.solver.solve.Goals as goal

pub returns-clause-solution : goal.returns-clause-solution
returns-clause-solution c =
    let net = c.args.flow.now.net in let S = c.solve_from.ensures in
    let as_before : graph c.start.new.flow.net ≡ graph net = ap graph c.start.ensures.same.net in
    solved (graph net) (state c.args.flow.now).excess (state c.start.new.flow) (state c.solve_from.new.flow) (tree c.solve_from.new.search).place c.solve_from.result c.start.ensures.initial (rw as_before at S.progress.sound) (rw as_before at S.progress.later) (rw as_before at S.answer)

pub returns-clause-optimal : goal.returns-clause-optimal
returns-clause-optimal c =
    let net = c.args.flow.now.net in
    meaning (graph net) net.formed.laws (state c.args.flow.now).excess (state c.solve_from.new.flow) (tree c.solve_from.new.search).place c.solve_from.result (returns-clause-solution c)
