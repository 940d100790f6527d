use Rattle.std.proofs.Common.{ap, ◌∙◌, arith, rules, w64, SFits, to_z, of_z}
use Rattle.std.proofs.lemmas.Int.{to_z-of_z}
use Rattle.phase_field.specs.Model.{field_of}
use Rattle.phase_turns.specs.Residue.{counted}
use Rattle.phase_turns.proofs.Adding.{none_yet, one_more}
use Rattle.phase_turns.proofs.Residues.{counted_most, row_all}
use Rattle.phase_turns.proofs.residue.row_residue_count.Goals as goal

pub loop-x-init : goal.loop-x-init
loop-x-init c = none_yet _ 1

pub loop-x-preserved : goal.loop-x-preserved
loop-x-preserved c =
    let fits : SFits w64 c.residue.result = search rules in
    let same = to_z-of_z w64 c.residue.result fits in
    one_more _ 1 c.loop-x.x c.loop-x.count c.counted-count.result c.loop-x.invariant (c.counted-count.ensures ∙ ap counted (same ∙ c.residue.ensures)) (omega (arith, c.counted-count.ensures, counted_most (to_z w64 (of_z w64 c.residue.result))))

pub returns : goal.returns
returns c =
    let f = c.args.field.now in
    c.loop-x.invariant.is ∙ row_all (field_of f) c.args.steps.now.right c.args.steps.now.below c.args.y c.loop-x.x (omega arith)
