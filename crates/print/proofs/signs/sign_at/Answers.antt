use Rattle.std.proofs.Common.{◌∙◌, ap, rules, w64, SFits}
use Rattle.std.proofs.lemmas.Int.{to_z-of_z}
use Rattle.phase_field.specs.Model.{field_of}
use Rattle.phase_turns.proofs.Expecting.{residue_expected, right_expected, below_expected}
use Rattle.print.specs.Signs.{sign}
use Rattle.print.proofs.signs.sign_at.Goals as goal

pub residue-requires-clause-right_small : goal.residue-requires-clause-right_small
residue-requires-clause-right_small c =
    let e = c.args.expected.now in
    right_expected (field_of c.args.field.now) e.right e.below c.requires.expected

pub residue-requires-clause-below_small : goal.residue-requires-clause-below_small
residue-requires-clause-below_small c =
    let e = c.args.expected.now in
    below_expected (field_of c.args.field.now) e.right e.below c.requires.expected

pub returns : goal.returns
returns c =
    let e = c.args.expected.now in
    let fits : SFits w64 c.residue.result = search rules in
    c.sign.ensures ∙ ap sign (to_z-of_z w64 c.residue.result fits ∙ c.residue.ensures ∙ residue_expected (field_of c.args.field.now) e.right e.below c.requires.expected c.args.x c.args.y c.requires.wide c.requires.high)
