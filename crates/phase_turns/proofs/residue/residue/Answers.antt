use Rattle.std.proofs.Common.{◌+◌, ◌*◌, refl, arith}
use Rattle.std.proofs.lemmas.Int.{ints}
use Rattle.phase_field.specs.Model.{field_of}
use Rattle.phase_turns.proofs.Residues.{residue_at}
use Rattle.phase_turns.proofs.residue.residue.Goals as goal

pub returns : goal.returns
returns c =
    let f = c.args.field.now in
    let s = c.args.steps.now in
    let p = c.args.y * f.wide + c.args.x in
    omega (
      arith,
      ints,
      residue_at (field_of f) s.right s.below c.args.x c.args.y p refl,
      c.against.ensures,
      c.requires.right_small p,
      c.requires.right_small (p + f.wide),
      c.requires.below_small p,
      c.requires.below_small (p + 1),
    )
