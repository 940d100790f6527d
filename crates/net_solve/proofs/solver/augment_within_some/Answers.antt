use Rattle.net_solve.proofs.Progress.{progress_none, slices_none, progress_more}
use Rattle.net_solve.proofs.solver.augment_within_some.Goals as goal

pub loop-source-init : goal.loop-source-init
loop-source-init c = progress_none _ _ _ c.requires.sound (slices_none _)

pub loop-source-preserved : goal.loop-source-preserved
loop-source-preserved c = progress_more _ _ _ _ _ _ c.loop-source.invariant c.send_excess.ensures.progress

pub returns-2 : goal.returns-2
returns-2 c = record { progress = progress_more _ _ _ _ _ _ c.loop-source.invariant c.send_excess.ensures.progress }
