use Rattle.std.proofs.Common.{◌≡◌, suc, ◌+◌, ◌*◌, to_z, of_z, w64, ap, ◌∙◌, arith, rules}
use Rattle.net_cells.specs.Lists.{up_of}
use Rattle.squares_solve.proofs.flows.up_across.Goals as goal

pub returns : goal.returns
returns c =
    let e : (c.args.y + 1) * (c.args.wide + 1) + (c.args.x + 1) ≡ suc c.args.y * suc c.args.wide + suc c.args.x = omega arith in
    let same : to_z w64 (of_z w64 c.up_at.result) ≡ c.up_at.result = search rules in
    same ∙ (c.up_at.ensures ∙ ap (up_of c.args.flows.now) e)
