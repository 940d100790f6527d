-- The potential fits where it is lowered.
use Rattle.std.proofs.Common.{rules, ◌≤◌, ◌^◌, nat_abs, arith}
use Rattle.std.proofs.lemmas.Int.{ints}
use Rattle.net_cells_search.proofs.lower.fallen.Goals as goal

pub returns-then-label-bound : goal.returns-then-label-bound
returns-then-label-bound c =
    let p : nat_abs c.args.potential ≤ 2 ^ 28 = omega (arith, ints, c.requires.potential (omega (arith, ints))) in
    search rules
