use Rattle.std.proofs.Common.{◌≤◌, ◌∙◌, arith}
use Rattle.phase_field.specs.Model.{field_of}
use Rattle.phase_turns.proofs.Adding.{none_yet, one_more}
use Rattle.phase_turns.proofs.Residues.{row_small, count_all}
use Rattle.phase_turns.proofs.residue.residue_count.Goals as goal

pub loop-y-init : goal.loop-y-init
loop-y-init c = none_yet _ 63

few : (c : goal.After-row_residue_count-count) → c.row_residue_count-count.result ≤ 63
few c =
    let f = c.args.field.now in
    omega (arith, c.row_residue_count-count.ensures, row_small (field_of f) c.args.steps.now.right c.args.steps.now.below c.loop-y.y f.wide_fits)

pub overflow_add-count : goal.overflow_add-count
overflow_add-count c = omega (arith, c.loop-y.invariant.small, few c, c.args.field.now.high_fits)

pub loop-y-preserved : goal.loop-y-preserved
loop-y-preserved c = one_more _ 63 c.loop-y.y c.loop-y.count c.row_residue_count-count.result c.loop-y.invariant c.row_residue_count-count.ensures (few c)

pub returns : goal.returns
returns c =
    let f = c.args.field.now in
    c.loop-y.invariant.is ∙ count_all (field_of f) c.args.steps.now.right c.args.steps.now.below c.loop-y.y (omega arith)
