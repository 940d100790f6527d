use Rattle.net_solve.proofs.Progress.{progress_none, slices_none, progress_more}
use Rattle.net_solve.proofs.solver.augment_by_radius.Goals as goal

pub loop-radius-init : goal.loop-radius-init
loop-radius-init c = progress_none _ _ _ c.requires.sound (slices_none _)

pub loop-radius-preserved : goal.loop-radius-preserved
loop-radius-preserved c = progress_more _ _ _ _ _ _ c.loop-radius.invariant c.augment_within.ensures.progress
