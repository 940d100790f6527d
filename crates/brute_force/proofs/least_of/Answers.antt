use Rattle.brute_force.proofs.Codes.{first_least, lesser_least}
use Rattle.brute_force.proofs.least_of.Goals as goal

pub loop-code-init : goal.loop-code-init
loop-code-init c = first_least _ _ c.cost_of-least.ensures

pub loop-code-preserved : goal.loop-code-preserved
loop-code-preserved c = lesser_least _ _ c.loop-code.least c.cost_of.result _ c.loop-code.invariant c.cost_of.ensures c.min-least.ensures
