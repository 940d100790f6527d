use Rattle.std.proofs.Common.{pred, ◌+◌, ◌*◌, ◌^◌, ◌<◌, ◌≤◌, length, get_or, nat_abs, pos, arith}
use Rattle.std.proofs.lemmas.Nat.{mul-add-lt}
use Rattle.std.proofs.lemmas.Int.{ints}
use Rattle.squares_cells.specs.Squares.{across}
use Rattle.squares_build.specs.Steps.{sized}
use Rattle.squares_solve.proofs.Adding.{adding_none, adding_row, adding_more, adding_all}
use Rattle.squares_solve.proofs.flows.add_right.Goals as goal

pub loop-y-init : goal.loop-y-init
loop-y-init c = adding_none c.args.wide c.args.wide (across (sized c.args.wide c.args.high) c.args.flows.now).below c.args.steps.now c.requires.few

pub with-requires-clause-expected : goal.with-requires-clause-expected
with-requires-clause-expected c =
    let place = c.loop-y.y * c.args.wide + c.loop-x.x in
    omega (arith, ints, c.loop-x.invariant.rest place (omega arith), c.requires.few place)

pub with-requires-clause-across : goal.with-requires-clause-across
with-requires-clause-across c = omega (arith, ints, c.right_across-across.ensures, c.requires.within.below c.loop-x.x c.loop-y.y c.loop-x-test.true (omega arith))

pub loop-x-preserved : goal.loop-x-preserved
loop-x-preserved c =
    let place = c.loop-y.y * c.args.wide + c.loop-x.x in
    let within : place < length c.loop-x.steps = omega (arith, mul-add-lt c.loop-y.y c.args.wide c.loop-x.x c.args.high (omega arith) (omega arith)) in
    let old : nat_abs (get_or c.loop-x.steps place (pos 0)) ≤ 2 ^ 32 = omega (arith, ints, c.loop-x.invariant.rest place (omega arith), c.requires.few place) in
    let flow = c.requires.within.below c.loop-x.x c.loop-y.y c.loop-x-test.true (omega arith) in
    adding_more c.args.wide c.args.wide (across (sized c.args.wide c.args.high) c.args.flows.now).below c.args.steps.now c.loop-x.x c.loop-y.y c.loop-x.steps _ (omega arith) (omega arith) within
    (omega (arith, ints, c.with.ensures.is, c.with.ensures.small, c.right_across-across.ensures, old, flow)) (omega (arith, ints, c.with.ensures.small)) c.loop-x.invariant

pub loop-y-preserved : goal.loop-y-preserved
loop-y-preserved c =
    adding_row c.args.wide c.args.wide (across (sized c.args.wide c.args.high) c.args.flows.now).below c.args.steps.now c.loop-x.x c.loop-y.y c.loop-x.steps (omega (arith, c.loop-x.auto.x-end)) (omega arith) c.loop-x.invariant

pub returns : goal.returns
returns c = adding_all c.args.wide c.args.wide (pred c.args.high) (across (sized c.args.wide c.args.high) c.args.flows.now).below c.args.steps.now c.loop-y.steps c.loop-y.y (omega (arith, c.loop-y.auto.y-end)) c.loop-y.invariant
