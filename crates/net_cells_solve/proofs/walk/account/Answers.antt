-- From either side.
use Rattle.std.proofs.Common.{◌≡◌, ◌<◌, ◌^◌, nat_abs, ℤ, ap, sym, ◌∙◌, rules, w64, to_z, of_z, arith}
use Rattle.std.proofs.lemmas.Int.{ints}
use Rattle.net_cells.specs.Lists.{signed}
use Rattle.net_cells_theory.proofs.Fences.{abs_signed}
use Rattle.net_cells_solve.proofs.Sending.{account_one, account_both}
use Rattle.net_cells_solve.proofs.walk.account.Goals as goal

pub returns-then-cells-target : goal.returns-then-cells-target
returns-then-cells-target c =
    let amount : to_z w64 (of_z w64 c.args.amount) ≡ c.args.amount = search rules in
    let few : nat_abs c.signed_flow-sent.result < 2 ^ 62 = omega (arith, ints, ap nat_abs c.signed_flow-sent.ensures, abs_signed c.args.side.back (to_z w64 (of_z w64 c.args.amount)), c.requires.small, amount) in
    let is : c.signed_flow-sent.result ≡ signed c.args.side.back c.args.amount = c.signed_flow-sent.ensures ∙ ap (signed c.args.side.back) amount in
    account_both c.args.cells.now c.add_excess.new.cells c.add_excess-then-cells-target.new.cells c.args.side c.args.source c.args.target c.args.amount c.signed_flow-sent.result is c.requires.apart
    (omega (arith, ints, c.add_excess.ensures.here, c.signed_flow-sent.type_inv, few)) c.add_excess.ensures.kept c.add_excess.ensures.inner c.add_excess.ensures.potential
    (omega (arith, ints, c.add_excess-then-cells-target.ensures.here, c.signed_flow-sent.type_inv, few)) c.add_excess-then-cells-target.ensures.kept c.add_excess-then-cells-target.ensures.inner c.add_excess-then-cells-target.ensures.potential

pub returns-else-cells-target : goal.returns-else-cells-target
returns-else-cells-target c =
    let amount : to_z w64 (of_z w64 c.args.amount) ≡ c.args.amount = search rules in
    let few : nat_abs c.signed_flow-sent.result < 2 ^ 62 = omega (arith, ints, ap nat_abs c.signed_flow-sent.ensures, abs_signed c.args.side.back (to_z w64 (of_z w64 c.args.amount)), c.requires.small, amount) in
    let is : c.signed_flow-sent.result ≡ signed c.args.side.back c.args.amount = c.signed_flow-sent.ensures ∙ ap (signed c.args.side.back) amount in
    account_one c.args.cells.now c.add_excess.new.cells c.add_excess.new.cells c.args.side c.args.source c.args.target c.args.amount c.signed_flow-sent.result is c.requires.apart
    (omega (arith, ints, c.add_excess.ensures.here, c.signed_flow-sent.type_inv, few)) c.add_excess.ensures.kept c.add_excess.ensures.inner c.add_excess.ensures.potential (search rules)
