-- Step by step.
use Rattle.std.proofs.Common.{◌≡◌, ℕ, ◌+◌, ◌<◌, ◌≤◌, ◌^◌, ◌≢◌, true, false, length, ℤ, pos, ◌≤ℤ◌, ◌<ℤ◌, neg_ℤ, nat_abs, ap, ap₂, sym, ◌∙◌, subst, rules, w64, to_z, of_z, refl, arith}
use Rattle.std.proofs.lemmas.Int.{ints}
use Rattle.net_cells.specs.Net.{back}
use Rattle.net_cells.specs.Lists.{number, head, inner_of, flow_of, flow_in}
use Rattle.net_cells_theory.proofs.Fences.{number_less}
use Rattle.net_cells_search.specs.Marks.{way_of}
use Rattle.net_cells_solve.specs.Walk.{tail, depth, Leads, Most}
use Rattle.net_cells_solve.proofs.Walking.{led_by, fewer, less_most, most_all}
use Rattle.net_cells_solve.proofs.walk.most.Goals as goal

pub step_from-u-requires-clause-leads : goal.step_from-u-requires-clause-leads
step_from-u-requires-clause-leads c =
    let L = led_by c.args.cells.now c.args.side c.args.room.now.marks.now c.args.source c.loop-v.v c.loop-v-test.true c.loop-v.invariant.leads in
    ap (λ (d : ℕ). head c.args.side.stride (head c.args.side.stride c.loop-v.v (back d)) d) c.way_at-way.ensures ∙ L.head

pub step_from-u-requires-clause-cell : goal.step_from-u-requires-clause-cell
step_from-u-requires-clause-cell c =
    let L = led_by c.args.cells.now c.args.side c.args.room.now.marks.now c.args.source c.loop-v.v c.loop-v-test.true c.loop-v.invariant.leads in
    omega (arith, ap (λ (d : ℕ). head c.args.side.stride c.loop-v.v (back d)) c.way_at-way.ensures, c.requires.low (tail c.args.side.stride c.args.room.now.marks.now c.loop-v.v) L.inner)

pub flow_at-requires-clause-low : goal.flow_at-requires-clause-low
flow_at-requires-clause-low c =
    let L = led_by c.args.cells.now c.args.side c.args.room.now.marks.now c.args.source c.loop-v.v c.loop-v-test.true c.loop-v.invariant.leads in
    omega (arith, c.step_from-u.ensures, ap (λ (d : ℕ). head c.args.side.stride c.loop-v.v (back d)) c.way_at-way.ensures, c.requires.low (tail c.args.side.stride c.args.room.now.marks.now c.loop-v.v) L.inner)

pub flow_at-requires-clause-high : goal.flow_at-requires-clause-high
flow_at-requires-clause-high c =
    let L = led_by c.args.cells.now c.args.side c.args.room.now.marks.now c.args.source c.loop-v.v c.loop-v-test.true c.loop-v.invariant.leads in
    omega (arith, c.step_from-u.ensures, ap (λ (d : ℕ). head c.args.side.stride c.loop-v.v (back d)) c.way_at-way.ensures, c.requires.high (tail c.args.side.stride c.args.room.now.marks.now c.loop-v.v) L.inner, c.requires.flows)

pub flow_at-requires-clause-small : goal.flow_at-requires-clause-small
flow_at-requires-clause-small c =
    let L = led_by c.args.cells.now c.args.side c.args.room.now.marks.now c.args.source c.loop-v.v c.loop-v-test.true c.loop-v.invariant.leads in
    omega (
      arith,
      ap₂ (λ (u d : ℕ). nat_abs (flow_of c.args.flows.now c.args.side.stride u d)) (c.step_from-u.ensures ∙ ap (λ (d : ℕ). head c.args.side.stride c.loop-v.v (back d)) c.way_at-way.ensures) c.way_at-way.ensures,
      c.requires.small_flow (tail c.args.side.stride c.args.room.now.marks.now c.loop-v.v) (way_of c.args.room.now.marks.now c.loop-v.v) L.inner L.is_way,
    )

pub fitting-least-requires : goal.fitting-least-requires
fitting-least-requires c =
    let L = led_by c.args.cells.now c.args.side c.args.room.now.marks.now c.args.source c.loop-v.v c.loop-v-test.true c.loop-v.invariant.leads in
    omega (
      arith,
      ints,
      ap nat_abs c.flow_at.ensures,
      ap₂ (λ (u d : ℕ). nat_abs (flow_in c.args.flows.now c.args.side u d)) (c.step_from-u.ensures ∙ ap (λ (d : ℕ). head c.args.side.stride c.loop-v.v (back d)) c.way_at-way.ensures) c.way_at-way.ensures,
      c.requires.small_flow_in (tail c.args.side.stride c.args.room.now.marks.now c.loop-v.v) (way_of c.args.room.now.marks.now c.loop-v.v) L.inner L.is_way,
    )

pub loop-v-smaller : goal.loop-v-smaller
loop-v-smaller c =
    subst (λ (u : ℕ). depth (length c.args.cells.now) c.args.source (tail c.args.side.stride c.args.room.now.marks.now) u < depth (length c.args.cells.now) c.args.source (tail c.args.side.stride c.args.room.now.marks.now) c.loop-v.v)
    (sym (c.step_from-u.ensures ∙ ap (λ (d : ℕ). head c.args.side.stride c.loop-v.v (back d)) c.way_at-way.ensures))
    (fewer c.args.cells.now c.args.side c.args.room.now.marks.now c.args.source c.loop-v.v (λ u i. omega (arith, c.requires.high u i)) c.loop-v.invariant.cell c.loop-v-test.true c.loop-v.invariant.leads)

pub loop-v-preserved : goal.loop-v-preserved
loop-v-preserved c =
    let s = c.args.side.stride in
    let u : c.step_from-u.result ≡ tail s c.args.room.now.marks.now c.loop-v.v = c.step_from-u.ensures ∙ ap (λ (d : ℕ). head s c.loop-v.v (back d)) c.way_at-way.ensures in
    let flow : c.flow_at.result ≡ flow_in c.args.flows.now c.args.side (tail s c.args.room.now.marks.now c.loop-v.v) (way_of c.args.room.now.marks.now c.loop-v.v) = c.flow_at.ensures ∙ ap₂ (flow_in c.args.flows.now c.args.side) u c.way_at-way.ensures in
    subst (λ (x : ℕ). Most c.args.cells.now c.args.flows.now c.args.side c.args.room.now.marks.now c.args.source c.args.target x (to_z w64 (of_z w64 c.fitting-least.result))) (sym u)
    (less_most c.args.cells.now c.args.flows.now c.args.side c.args.room.now.marks.now c.args.source c.args.target c.loop-v.v (to_z w64 c.loop-v.least-bits) (to_z w64 (of_z w64 c.fitting-least.result)) (λ w i. omega (arith, c.requires.high w i)) c.loop-v-test.true
    (omega (arith, ints, c.fitting-least.ensures.less)) (omega (arith, ints, c.fitting-least.ensures.some (omega (arith, ints, c.loop-v.invariant.some))))
    (λ h. omega (arith, ints, c.fitting-least.ensures.fits (omega (arith, ints, flow, h)), flow)) c.loop-v.invariant)

pub returns-clause-takes : goal.returns-clause-takes
returns-clause-takes c =
    most_all c.args.cells.now c.args.flows.now c.args.side c.args.room.now.marks.now c.args.source c.args.target c.loop-v.v (to_z w64 c.loop-v.least-bits) c.loop-v-test.false c.loop-v.invariant
