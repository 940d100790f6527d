-- Step by step, and then the account.
use Rattle.std.proofs.Common.{◌≡◌, ℕ, ◌+◌, ◌<◌, ◌≤◌, ◌^◌, ◌≢◌, true, false, length, ℤ, pos, ◌≤ℤ◌, ◌<ℤ◌, neg_ℤ, nat_abs, ap, ap₂, sym, ◌∙◌, subst, rules, w64, to_z, of_z, refl, arith}
use Rattle.std.proofs.lemmas.Int.{ints}
use Rattle.net_cells.specs.Net.{back}
use Rattle.net_cells.specs.Lists.{number, head, inner_of, excess_in, flow_of, flow_in, cost_in, view}
use Rattle.net_cells_theory.specs.Slots.{Pushed}
use Rattle.net_cells_search.specs.Marks.{way_of}
use Rattle.net_cells_solve.specs.Walk.{tail, depth, Goes, Sending}
use Rattle.net_cells_solve.proofs.Walking.{going_by, fewer_to_go, sent_on}
use Rattle.net_cells_solve.proofs.Sending.{later, sound, fence, less, few_in, few_of, roomy}
use Rattle.net_cells_solve.proofs.walk.send.Goals as goal

pub step_from-u-requires-clause-leads : goal.step_from-u-requires-clause-leads
step_from-u-requires-clause-leads c =
    let G = going_by c.args.cells.now c.args.flows.now c.loop-v.flows c.args.costs.now c.loop-v.costs c.args.side c.args.room.now.marks.now c.args.source c.args.target c.loop-v.v (to_z w64 (of_z w64 c.args.amount)) c.loop-v-test.true c.loop-v.invariant in
    ap (λ (d : ℕ). head c.args.side.stride (head c.args.side.stride c.loop-v.v (back d)) d) c.way_at-way.ensures ∙ G.step.head

pub step_from-u-requires-clause-cell : goal.step_from-u-requires-clause-cell
step_from-u-requires-clause-cell c =
    let G = going_by c.args.cells.now c.args.flows.now c.loop-v.flows c.args.costs.now c.loop-v.costs c.args.side c.args.room.now.marks.now c.args.source c.args.target c.loop-v.v (to_z w64 (of_z w64 c.args.amount)) c.loop-v-test.true c.loop-v.invariant in
    omega (arith, ap (λ (d : ℕ). head c.args.side.stride c.loop-v.v (back d)) c.way_at-way.ensures, c.requires.fenced.low (tail c.args.side.stride c.args.room.now.marks.now c.loop-v.v) G.step.inner)

pub push-requires-clause-low : goal.push-requires-clause-low
push-requires-clause-low c =
    let G = going_by c.args.cells.now c.args.flows.now c.loop-v.flows c.args.costs.now c.loop-v.costs c.args.side c.args.room.now.marks.now c.args.source c.args.target c.loop-v.v (to_z w64 (of_z w64 c.args.amount)) c.loop-v-test.true c.loop-v.invariant in
    omega (arith, c.step_from-u.ensures, ap (λ (d : ℕ). head c.args.side.stride c.loop-v.v (back d)) c.way_at-way.ensures, c.requires.fenced.low (tail c.args.side.stride c.args.room.now.marks.now c.loop-v.v) G.step.inner)

pub push-requires-clause-high : goal.push-requires-clause-high
push-requires-clause-high c =
    let G = going_by c.args.cells.now c.args.flows.now c.loop-v.flows c.args.costs.now c.loop-v.costs c.args.side c.args.room.now.marks.now c.args.source c.args.target c.loop-v.v (to_z w64 (of_z w64 c.args.amount)) c.loop-v-test.true c.loop-v.invariant in
    omega (arith, c.step_from-u.ensures, ap (λ (d : ℕ). head c.args.side.stride c.loop-v.v (back d)) c.way_at-way.ensures, c.requires.fenced.high (tail c.args.side.stride c.args.room.now.marks.now c.loop-v.v) G.step.inner, c.requires.sound.lengths, c.loop-v.auto.flows)

pub push-requires-clause-leads : goal.push-requires-clause-leads
push-requires-clause-leads c =
    let G = going_by c.args.cells.now c.args.flows.now c.loop-v.flows c.args.costs.now c.loop-v.costs c.args.side c.args.room.now.marks.now c.args.source c.args.target c.loop-v.v (to_z w64 (of_z w64 c.args.amount)) c.loop-v-test.true c.loop-v.invariant in
    sym (ap₂ (head c.args.side.stride) (c.step_from-u.ensures ∙ ap (λ (d : ℕ). head c.args.side.stride c.loop-v.v (back d)) c.way_at-way.ensures) c.way_at-way.ensures ∙ G.step.head)

pub push-requires-clause-price : goal.push-requires-clause-price
push-requires-clause-price c =
    let G = going_by c.args.cells.now c.args.flows.now c.loop-v.flows c.args.costs.now c.loop-v.costs c.args.side c.args.room.now.marks.now c.args.source c.args.target c.loop-v.v (to_z w64 (of_z w64 c.args.amount)) c.loop-v-test.true c.loop-v.invariant in
    let u = tail c.args.side.stride c.args.room.now.marks.now c.loop-v.v in
    let d = way_of c.args.room.now.marks.now c.loop-v.v in
    omega (
      arith,
      ap₂ (λ (x e : ℕ). nat_abs (cost_in c.loop-v.costs c.args.side x e)) (c.step_from-u.ensures ∙ ap (λ (e : ℕ). head c.args.side.stride c.loop-v.v (back e)) c.way_at-way.ensures) c.way_at-way.ensures,
      c.loop-v.invariant.price u d G.step.inner G.step.is_way,
      c.requires.fenced.cost u d G.step.inner G.step.is_way,
    )

pub push-requires-clause-small : goal.push-requires-clause-small
push-requires-clause-small c =
    let a = to_z w64 (of_z w64 c.args.amount) in
    let G = going_by c.args.cells.now c.args.flows.now c.loop-v.flows c.args.costs.now c.loop-v.costs c.args.side c.args.room.now.marks.now c.args.source c.args.target c.loop-v.v a c.loop-v-test.true c.loop-v.invariant in
    let u = tail c.args.side.stride c.args.room.now.marks.now c.loop-v.v in
    let d = way_of c.args.room.now.marks.now c.loop-v.v in
    omega (
      arith,
      ap₂ (λ (x e : ℕ). nat_abs (flow_of c.loop-v.flows c.args.side.stride x e)) (c.step_from-u.ensures ∙ ap (λ (e : ℕ). head c.args.side.stride c.loop-v.v (back e)) c.way_at-way.ensures) c.way_at-way.ensures,
      roomy c.args.cells.now c.args.flows.now c.loop-v.flows c.args.costs.now c.args.side c.args.source u d a c.requires.sound c.requires.source c.requires.inner (omega (arith, ints, c.requires.some)) (omega (arith, ints, c.requires.enough)) G.step.inner G.step.is_way G.same,
    )

pub loop-v-smaller : goal.loop-v-smaller
loop-v-smaller c =
    subst (λ (u : ℕ). depth (length c.args.cells.now) c.args.source (tail c.args.side.stride c.args.room.now.marks.now) u < depth (length c.args.cells.now) c.args.source (tail c.args.side.stride c.args.room.now.marks.now) c.loop-v.v)
    (sym (c.step_from-u.ensures ∙ ap (λ (d : ℕ). head c.args.side.stride c.loop-v.v (back d)) c.way_at-way.ensures))
    (fewer_to_go c.args.cells.now c.args.flows.now c.loop-v.flows c.args.costs.now c.loop-v.costs c.args.side c.args.room.now.marks.now c.args.source c.args.target c.loop-v.v (to_z w64 (of_z w64 c.args.amount))
    (λ u i. omega (arith, c.requires.fenced.high u i)) c.loop-v-test.true c.loop-v.invariant)

pub loop-v-preserved : goal.loop-v-preserved
loop-v-preserved c =
    let a = to_z w64 (of_z w64 c.args.amount) in
    let u : c.step_from-u.result ≡ tail c.args.side.stride c.args.room.now.marks.now c.loop-v.v = c.step_from-u.ensures ∙ ap (λ (d : ℕ). head c.args.side.stride c.loop-v.v (back d)) c.way_at-way.ensures in
    subst (λ (x : ℕ). Sending c.args.cells.now c.args.flows.now c.push.new.flows c.args.costs.now c.push.new.costs c.args.side c.args.room.now.marks.now c.args.source c.args.target x a) (sym u)
    (sent_on c.args.cells.now c.args.flows.now c.loop-v.flows c.push.new.flows c.args.costs.now c.loop-v.costs c.push.new.costs c.args.side c.args.room.now.marks.now c.args.source c.args.target c.loop-v.v a
    c.requires.fenced.low (λ w i. omega (arith, c.requires.fenced.high w i)) c.loop-v.invariant c.loop-v-test.true c.requires.fenced.stride
    (subst (λ (d : ℕ). Pushed c.loop-v.flows c.push.new.flows c.loop-v.costs c.push.new.costs c.args.side (tail c.args.side.stride c.args.room.now.marks.now c.loop-v.v) d a) c.way_at-way.ensures
    (subst (λ (x : ℕ). Pushed c.loop-v.flows c.push.new.flows c.loop-v.costs c.push.new.costs c.args.side x (number c.way_at-way.result) a) u c.push.ensures)))

pub account-requires-clause-small_source : goal.account-requires-clause-small_source
account-requires-clause-small_source c = omega (arith, few_of c.args.cells.now c.args.flows.now c.args.costs.now c.args.side c.args.source c.requires.sound c.requires.source c.requires.inner)

pub account-requires-clause-small : goal.account-requires-clause-small
account-requires-clause-small c =
    omega (arith, ints, few_in c.args.cells.now c.args.flows.now c.args.costs.now c.args.side c.args.source c.requires.sound c.requires.source c.requires.inner, c.requires.some, c.requires.enough)

pub returns-clause-fenced : goal.returns-clause-fenced
returns-clause-fenced c =
    fence c.args.cells.now c.account.new.cells c.args.flows.now c.loop-v.flows c.args.costs.now c.loop-v.costs c.args.side c.args.room.now.marks.now c.args.source c.args.target (to_z w64 (of_z w64 c.args.amount)) c.requires.fenced c.requires.sound
    c.requires.source c.requires.inner (omega (arith, ints, c.requires.some)) (omega (arith, ints, c.requires.enough)) (λ i. omega (arith, ints, c.requires.wanted i))
    (subst (λ (x : ℕ). Sending c.args.cells.now c.args.flows.now c.loop-v.flows c.args.costs.now c.loop-v.costs c.args.side c.args.room.now.marks.now c.args.source c.args.target x (to_z w64 (of_z w64 c.args.amount))) c.loop-v-test.false c.loop-v.invariant)
    c.account.ensures (search rules) c.loop-v.auto.costs c.loop-v.auto.flows

pub returns-clause-sound : goal.returns-clause-sound
returns-clause-sound c =
    sound c.args.cells.now c.account.new.cells c.args.flows.now c.loop-v.flows c.args.costs.now c.loop-v.costs c.args.side c.args.room.now.marks.now c.args.source c.args.target (to_z w64 (of_z w64 c.args.amount)) c.requires.fenced c.requires.sound
    c.requires.source c.requires.inner (omega (arith, ints, c.requires.some)) (omega (arith, ints, c.requires.enough)) (λ i. omega (arith, ints, c.requires.wanted i))
    (subst (λ (x : ℕ). Sending c.args.cells.now c.args.flows.now c.loop-v.flows c.args.costs.now c.loop-v.costs c.args.side c.args.room.now.marks.now c.args.source c.args.target x (to_z w64 (of_z w64 c.args.amount))) c.loop-v-test.false c.loop-v.invariant)
    c.account.ensures (search rules) c.loop-v.auto.costs c.loop-v.auto.flows

pub returns-clause-later : goal.returns-clause-later
returns-clause-later c =
    later c.args.cells.now c.account.new.cells c.args.flows.now c.loop-v.flows c.args.costs.now c.loop-v.costs c.args.side c.args.room.now.marks.now c.args.source c.args.target (to_z w64 (of_z w64 c.args.amount)) c.requires.fenced c.requires.sound
    c.requires.source c.requires.inner (omega (arith, ints, c.requires.some)) (omega (arith, ints, c.requires.enough)) (λ i. omega (arith, ints, c.requires.wanted i))
    (subst (λ (x : ℕ). Sending c.args.cells.now c.args.flows.now c.loop-v.flows c.args.costs.now c.loop-v.costs c.args.side c.args.room.now.marks.now c.args.source c.args.target x (to_z w64 (of_z w64 c.args.amount))) c.loop-v-test.false c.loop-v.invariant)
    c.account.ensures (search rules) c.loop-v.auto.costs c.loop-v.auto.flows

pub returns-clause-less : goal.returns-clause-less
returns-clause-less c =
    omega (
      arith,
      ints,
      c.requires.some,
      less c.args.cells.now c.account.new.cells c.args.flows.now c.loop-v.flows c.args.costs.now c.loop-v.costs c.args.side c.args.room.now.marks.now c.args.source c.args.target (to_z w64 (of_z w64 c.args.amount)) c.requires.fenced c.requires.sound
          c.requires.source c.requires.inner (omega (arith, ints, c.requires.some)) (omega (arith, ints, c.requires.enough)) (λ i. omega (arith, ints, c.requires.wanted i))
          (subst (λ (x : ℕ). Sending c.args.cells.now c.args.flows.now c.loop-v.flows c.args.costs.now c.loop-v.costs c.args.side c.args.room.now.marks.now c.args.source c.args.target x (to_z w64 (of_z w64 c.args.amount))) c.loop-v-test.false c.loop-v.invariant)
          c.account.ensures (search rules) c.loop-v.auto.costs c.loop-v.auto.flows,
    )
