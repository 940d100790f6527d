use Rattle.net_solve.proofs.Progress.{progress_none, slices_none, progress_more}
use Rattle.net_solve.proofs.solver.send_excess.Goals as goal

pub loop-flow-init : goal.loop-flow-init
loop-flow-init c = progress_none _ _ _ c.requires.sound (slices_none _)

pub loop-flow-preserved : goal.loop-flow-preserved
loop-flow-preserved c = progress_more _ _ _ _ _ _ c.loop-flow.invariant c.augment.ensures.progress

pub returns-then-not-augment-clause-progress : goal.returns-then-not-augment-clause-progress
returns-then-not-augment-clause-progress c = progress_more _ _ _ _ _ _ c.loop-flow.invariant c.augment.ensures.progress
