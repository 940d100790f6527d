use Rattle.std.proofs.Common.{◌≡◌, suc, ◌+◌, ◌*◌, to_z, of_z, w64, ap, ◌∙◌, arith, rules}
use Rattle.net_cells.specs.Lists.{right_of}
use Rattle.squares_solve.proofs.flows.right_across.Goals as goal

pub returns : goal.returns
returns c =
    let e : (c.args.y + 1) * (c.args.wide + 1) + c.args.x ≡ suc c.args.y * suc c.args.wide + c.args.x = omega arith in
    let same : to_z w64 (of_z w64 c.right_at.result) ≡ c.right_at.result = search rules in
    same ∙ (c.right_at.ensures ∙ ap (right_of c.args.flows.now) e)
