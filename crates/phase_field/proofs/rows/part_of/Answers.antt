use Rattle.phase_field.proofs.Parts.{part_is}
use Rattle.phase_field.proofs.rows.part_of.Goals as goal

pub returns : goal.returns
returns g c = part_is c.args.from c.args.count c.args.all.now c.requires
