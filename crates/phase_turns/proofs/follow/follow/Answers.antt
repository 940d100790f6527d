use Rattle.std.proofs.Common.{◌≡◌, ◌+◌, ◌-◌, ◌*◌, length, sym, ◌∙◌, arith, rules}
use Rattle.std.proofs.lemmas.Int.{ints}
use Rattle.phase_field.proofs.Parts.{row_ends, part_is}
use Rattle.phase_turns.proofs.Following.{rows_none, rows_more, rows_all, row_steps_small}
use Rattle.phase_turns.proofs.follow.follow.Goals as goal

pub loop-y-init : goal.loop-y-init
loop-y-init c = rows_none c.args.wide c.args.right.now c.args.below.now c.args.room.now

pub row_of-requires : goal.row_of-requires
row_of-requires c = omega (arith, row_ends c.args.wide c.args.high c.loop-y.y c.loop-y-test.true, c.requires.right_len)

pub slice_bounds-follow_row-end : goal.slice_bounds-follow_row-end
slice_bounds-follow_row-end c =
    let e = row_ends c.args.wide c.args.high c.loop-y.y c.loop-y-test.true in
    let n : length c.loop-y.room ≡ c.args.wide * c.args.high = omega (arith, c.loop-y.auto.room, c.requires.room_len) in
    search rules

pub follow_row-requires : goal.follow_row-requires
follow_row-requires c =
    let n : length c.loop-y.room ≡ c.args.wide * c.args.high = omega (arith, c.loop-y.auto.room, c.requires.room_len) in
    let e = row_ends c.args.wide c.args.high c.loop-y.y c.loop-y-test.true in
    let part = (part_is (c.loop-y.y * c.args.wide) c.args.wide c.loop-y.room (omega arith)).long in record { start_bound = omega (arith, c.loop-y.invariant.small, c.requires.high_bound, c.loop-y-test.true); steps_len = c.row_of.ensures.long ∙ sym part; row_len_bound = omega (arith, part, c.requires.wide_bound); steps_few = row_steps_small c.args.wide c.loop-y.y c.args.right.now c.row_of.result.now c.row_of.ensures c.requires.right_few }

pub bounds-below-from : goal.bounds-below-from
bounds-below-from c = omega (arith, row_ends c.args.wide c.args.high c.loop-y.y c.loop-y-test.true, c.requires.below_len)

pub loop-y-preserved : goal.loop-y-preserved
loop-y-preserved c =
    let w = c.args.wide in
    let y = c.loop-y.y in
    let n : length c.loop-y.room ≡ w * c.args.high = omega (arith, c.loop-y.auto.room, c.requires.room_len) in
    let e = row_ends w c.args.high y c.loop-y-test.true in
    let part = (part_is (y * w) w c.loop-y.room (omega arith)).long in
    let one : w ≡ y * w + w - y * w = omega arith in
    let long : length c.follow_row.new.row ≡ w = c.follow_row.auto.row ∙ part in
    rows_more w c.args.high _ c.args.right.now c.args.below.now c.loop-y.room c.row_of.result.now c.follow_row.new.row y _ _ c.loop-y.invariant c.loop-y-test.true n
    c.row_of.ensures long c.follow_row.ensures.is c.requires.below_few one
    (omega (arith, ints, c.requires.below_few (y * w), c.loop-y.invariant.small, c.requires.high_bound))

pub returns : goal.returns
returns c = rows_all c.args.wide c.args.high c.args.right.now c.args.below.now c.loop-y.room c.loop-y.y _ (omega arith) c.loop-y.invariant
