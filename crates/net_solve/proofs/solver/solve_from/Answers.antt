use Rattle.std.proofs.Common.{arith}
use Rattle.net_graph.specs.Network.{graph}
use Rattle.net_graph.specs.Sound.{state}
use Rattle.net_solve.proofs.Augmentation.{all_even}
use Rattle.net_solve.proofs.solver.solve_from.Goals as goal

pub returns-clause-answer : goal.returns-clause-answer
returns-clause-answer c =
    let I = c.loop-first.invariant in
    all_even (graph c.args.flow.now.net) (state c.loop-first.flow) I.progress.sound (λ v h. I.sent v h (omega (arith, c.loop-first-test.false)))
