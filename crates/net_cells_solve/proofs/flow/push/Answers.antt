-- What is written is what goes.
use Rattle.std.proofs.Common.{◌≡◌, ℕ, ◌+◌, ◌≤◌, ◌^◌, ℤ, pos, ◌-ℤ◌, neg_ℤ, nat_abs, ap, ap₂, sym, ◌∙◌, subst, rules, w16, w64, to_z, of_z, refl, arith}
use Rattle.std.proofs.lemmas.Int.{ints}
use Rattle.net_cells.specs.Net.{back, unit}
use Rattle.net_cells.specs.Lists.{number, signed, head, flow_of, cost_in}
use Rattle.net_cells_theory.specs.Slots.{Added, SetCost}
use Rattle.net_cells_theory.proofs.Fences.{number_less, abs_signed}
use Rattle.net_cells_theory.proofs.Pushes.{pushed, unit_is}
use Rattle.net_cells_solve.proofs.flow.push.Goals as goal

pub overflow_sub-flow : goal.overflow_sub-flow
overflow_sub-flow c =
    let now : nat_abs (flow_of c.add.new.flows c.args.side.stride c.args.u (number c.args.way)) ≤ 2 ^ 62 =
    omega (arith, ints, c.add.ensures.here, c.signed_flow.ensures, c.signed_flow.type_inv, abs_signed c.args.side.back (to_z w64 (of_z w64 c.args.amount)), c.requires.small) in
    omega (arith, ints, c.plain_flow-flow.ensures)

pub returns : goal.returns
returns c =
    let s = c.args.side.stride in
    let u = c.args.u in
    let d = number c.args.way in
    let p = nat_abs (cost_in c.args.costs.now c.args.side u d) in
    let z = flow_of c.add.new.flows s u d in
    let amount : to_z w64 (of_z w64 c.args.amount) ≡ c.args.amount = search rules in
    let sent : to_z w64 (of_z w64 c.signed_flow.result) ≡ signed c.args.side.back c.args.amount = omega (arith, ints, c.signed_flow.ensures, c.signed_flow.type_inv, ap (signed c.args.side.back) amount) in
    let now : nat_abs z ≤ 2 ^ 62 =
    omega (arith, ints, c.add.ensures.here, c.signed_flow.ensures, c.signed_flow.type_inv, abs_signed c.args.side.back (to_z w64 (of_z w64 c.args.amount)), c.requires.small) in
    let back_flow : to_z w64 (of_z w64 (pos 0 -ℤ to_z w64 (of_z w64 c.plain_flow-flow.result))) ≡ neg_ℤ z = omega (arith, ints, c.plain_flow-flow.ensures, now) in
    let first : to_z w16 (of_z w16 c.unit.result) ≡ unit p z =
    unit_is p z _ (λ h. omega (arith, ints, c.unit.ensures.along (omega (arith, ints, c.plain_flow-flow.ensures)), c.price_of-price.ensures, c.cost.ensures))
    (λ h. omega (arith, ints, c.unit.ensures.against (omega (arith, ints, c.plain_flow-flow.ensures)), c.price_of-price.ensures, c.cost.ensures)) in
    let second : to_z w16 (of_z w16 c.unit-2.result) ≡ unit p (neg_ℤ z) =
    unit_is p (neg_ℤ z) _ (λ h. omega (arith, ints, c.unit-2.ensures.along (omega (arith, ints, back_flow, h)), c.price_of-price.ensures, c.cost.ensures))
    (λ h. omega (arith, ints, c.unit-2.ensures.against (omega (arith, ints, back_flow, h)), c.price_of-price.ensures, c.cost.ensures)) in
    pushed c.args.flows.now c.add.new.flows c.args.costs.now c.set_cost.new.costs c.set_cost-2.new.costs c.args.side u d p c.args.amount c.requires.some c.requires.low (number_less c.args.way) refl
    (subst (λ (x : ℤ). Added c.args.flows.now c.add.new.flows s u d x) sent c.add.ensures)
    (subst (λ (x : ℤ). SetCost c.args.costs.now c.set_cost.new.costs u d x) first c.set_cost.ensures)
    (subst (λ (x : ℤ). SetCost c.set_cost.new.costs c.set_cost-2.new.costs (head s u d) (back d) x) second
    (subst (λ (e : ℕ). SetCost c.set_cost.new.costs c.set_cost-2.new.costs (head s u d) e (to_z w16 (of_z w16 c.unit-2.result))) c.back.ensures
    (subst (λ (v : ℕ). SetCost c.set_cost.new.costs c.set_cost-2.new.costs v (number c.back.result) (to_z w16 (of_z w16 c.unit-2.result))) c.requires.leads c.set_cost-2.ensures)))
