use Rattle.std.proofs.Common.{◌≡◌, ℕ, ◌∙◌, ap, ◌*◌, arith, rules}
use Rattle.squares_turns.specs.Lists.{field_lent}
use Rattle.phase_turns.proofs.Following.{integrated_first}
use Rattle.squares_turns.proofs.Putting.{crossed_cost, crossed_least, crossed_few}
use Rattle.unwrap.proofs.least.write_by.Goals as goal

pub returns-clause-cost : goal.returns-clause-cost
returns-clause-cost g c =
    let f = field_lent c.args.lists.now in
    let turn : c.from.result ≡ c.args.lists.now.turn = search rules in
    ap (λ (n : ℕ). n * c.settle_steps-turns.result) turn
    ∙ crossed_cost f c.expect_steps.new.right c.expect_steps.new.below c.settle_steps-turns.new.right c.settle_steps-turns.new.below c.follow.new.room c.settle_steps-turns.result
    c.expect_steps.ensures c.settle_steps-turns.ensures.crossed c.follow.ensures

pub returns-clause-first : goal.returns-clause-first
returns-clause-first g c =
    let f = c.args.lists.now in
    integrated_first f.wide f.high c.settle_steps-turns.new.right c.settle_steps-turns.new.below c.follow.new.room c.follow.ensures f.wide_some f.high_some

pub returns-clause-least : goal.returns-clause-least
returns-clause-least g c =
    let f = field_lent c.args.lists.now in
    crossed_least f c.expect_steps.new.right c.expect_steps.new.below c.settle_steps-turns.new.right c.settle_steps-turns.new.below c.follow.new.room c.settle_steps-turns.result
    c.expect_steps.ensures c.settle_steps-turns.ensures.crossed c.follow.ensures

pub returns-clause-small : goal.returns-clause-small
returns-clause-small g c =
    crossed_few (field_lent c.args.lists.now) c.expect_steps.new.right c.expect_steps.new.below c.settle_steps-turns.new.right c.settle_steps-turns.new.below c.follow.new.room c.settle_steps-turns.result
    c.settle_steps-turns.ensures.crossed c.follow.ensures (omega (arith, c.follow.auto.room, c.requires.room_len))
