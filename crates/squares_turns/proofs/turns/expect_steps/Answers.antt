use Rattle.std.proofs.Common.{◌≡◌, ◌*◌, length, arith}
use Rattle.squares_turns.proofs.Putting.{expected_in}
use Rattle.squares_turns.proofs.turns.expect_steps.Goals as goal

pub returns : goal.returns
returns c =
    let f = c.args.lists.now in
    expected_in f.wide f.high f.turn f.seen.now f.right.now f.below.now c.expect.new.steps c.expect-2.new.steps f.wide_some (omega (arith, c.expect.auto.steps, c.requires.right_len)) (omega (arith, c.expect-2.auto.steps, c.requires.below_len)) c.expect.ensures.is c.expect-2.ensures.is c.expect.ensures.small c.expect-2.ensures.small
