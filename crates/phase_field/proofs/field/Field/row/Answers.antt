use Rattle.std.proofs.Common.{◌≡◌, length, arith, rules}
use Rattle.phase_field.proofs.Parts.{row_held}
use Rattle.phase_field.proofs.field.Field.row.Goals as goal

pub row_of-requires : goal.row_of-requires
row_of-requires c =
    let f = c.args.self.now in
    let n : length c.args.list.now ≡ 4096 = search rules in
    omega (arith, row_held f.wide f.high c.args.y f.wide_fits f.high_fits c.requires)
