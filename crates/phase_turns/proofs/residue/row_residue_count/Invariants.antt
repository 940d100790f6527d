use Rattle.phase_field.specs.Model.{field_of}
use Rattle.phase_cost.specs.Steps.{residue, steps_in}
use Rattle.phase_turns.specs.Residue.{counted}
use Rattle.phase_turns.proofs.Adding.{SoFar}
use Rattle.phase_turns.proofs.residue.row_residue_count.Given as goal

abbrev pub invariant-loop-x : goal.invariant-loop-x
invariant-loop-x l = SoFar (λ x. counted (residue (steps_in (field_of l.field) l.steps.right l.steps.below) x l.y)) 1 l.x l.count
