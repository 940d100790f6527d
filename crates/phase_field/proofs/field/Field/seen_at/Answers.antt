use Rattle.std.proofs.Common.{arith}
use Rattle.std.proofs.lemmas.Nat.{mul-add-lt}
use Rattle.phase_field.proofs.Parts.{few_places}
use Rattle.phase_field.proofs.field.Field.seen_at.Goals as goal

pub bounds-self-y : goal.bounds-self-y
bounds-self-y c =
    let f = c.args.self.now in
    omega (arith, few_places f.wide f.high f.wide_fits f.high_fits, mul-add-lt c.args.y f.wide c.args.x f.high c.requires.row c.requires.column)
