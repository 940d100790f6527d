use Rattle.phase_field.specs.Model.{field_of}
use Rattle.phase_cost.specs.Steps.{steps_in}
use Rattle.phase_turns.specs.Residue.{row_residue_count}
use Rattle.phase_turns.proofs.Adding.{SoFar}
use Rattle.phase_turns.proofs.residue.residue_count.Given as goal

abbrev pub invariant-loop-y : goal.invariant-loop-y
invariant-loop-y l = SoFar (row_residue_count (steps_in (field_of l.field) l.steps.right l.steps.below)) 63 l.y l.count
