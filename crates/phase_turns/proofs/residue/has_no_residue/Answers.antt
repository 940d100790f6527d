use Rattle.std.proofs.Common.{arith}
use Rattle.std.proofs.lemmas.Bool.Decides.{nat_tests}
use Rattle.phase_field.specs.Model.{field_of}
use Rattle.phase_cost.specs.Steps.{steps_in}
use Rattle.phase_turns.proofs.Residues.{no_residues, none_is_zero}
use Rattle.phase_turns.proofs.residue.has_no_residue.Goals as goal

pub returns : goal.returns
returns c =
    let s = steps_in (field_of c.args.field.now) c.args.steps.now.right c.args.steps.now.below in
    let told = c.residue_count.ensures in
    (λ t. no_residues s (grind (arith, nat_tests)), λ n. let none = none_is_zero s n in grind (arith, nat_tests))
