use Rattle.std.proofs.lemmas.Int.{ints}
use Rattle.std.proofs.Common.{arith}
use Rattle.pictures.proofs.Shading.{shade_is}
use Rattle.pictures.proofs.shade_of.Goals as goal

pub returns : goal.returns
returns c = shade_is c.args.low c.args.high c.args.z c.abs_diff.result c.abs_diff-2.result c.part_of.result (omega (arith, ints)) (omega (arith, ints)) c.part_of.ensures
