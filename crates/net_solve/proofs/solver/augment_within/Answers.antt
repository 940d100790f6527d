use Rattle.net_solve.proofs.Progress.{progress_none, slices_none, progress_more}
use Rattle.net_solve.proofs.solver.augment_within.Goals as goal

pub loop-first-init : goal.loop-first-init
loop-first-init c = progress_none _ _ _ c.requires.sound (slices_none _)

pub loop-first-preserved : goal.loop-first-preserved
loop-first-preserved c = progress_more _ _ _ _ _ _ c.loop-first.invariant c.augment_within_some.ensures.progress
