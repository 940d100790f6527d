use Rattle.std.proofs.Common.{◌∙◌}
use Rattle.phase_field.specs.Model.{field_of}
use Rattle.phase_turns.proofs.Expecting.{right_expected, below_expected, count_expected}
use Rattle.test_random.proofs.trial.residues.Goals as goal

pub residue_count-requires-clause-right_small : goal.residue_count-requires-clause-right_small
residue_count-requires-clause-right_small c =
    let e = c.expected.result in
    right_expected (field_of c.args.field.now) e.right e.below c.expected.ensures

pub residue_count-requires-clause-below_small : goal.residue_count-requires-clause-below_small
residue_count-requires-clause-below_small c =
    let e = c.expected.result in
    below_expected (field_of c.args.field.now) e.right e.below c.expected.ensures

pub returns : goal.returns
returns c =
    let e = c.expected.result in
    c.residue_count.ensures ∙ count_expected (field_of c.args.field.now) e.right e.below c.expected.ensures
