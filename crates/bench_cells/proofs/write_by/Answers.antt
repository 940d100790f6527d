use Rattle.std.proofs.Common.{◌≡◌, ℕ, ◌∙◌, ap, ◌*◌, rules}
use Rattle.squares_turns.specs.Lists.{field_lent}
use Rattle.squares_turns.proofs.Putting.{crossed_cost, crossed_least}
use Rattle.bench_cells.proofs.write_by.Goals as goal

pub returns-clause-cost : goal.returns-clause-cost
returns-clause-cost c =
    let f = field_lent c.args.lists.now in
    let turn : c.from.result ≡ c.args.lists.now.turn = search rules in
    ap (λ (n : ℕ). n * c.in_ok-turns.turns) turn
    ∙ crossed_cost f c.expect_steps.new.right c.expect_steps.new.below c.settle_steps.new.right c.settle_steps.new.below c.follow.new.room c.in_ok-turns.turns
    c.expect_steps.ensures c.in_ok-turns.ensures.crossed c.follow.ensures

pub returns-clause-least : goal.returns-clause-least
returns-clause-least c =
    let f = field_lent c.args.lists.now in
    crossed_least f c.expect_steps.new.right c.expect_steps.new.below c.settle_steps.new.right c.settle_steps.new.below c.follow.new.room c.in_ok-turns.turns
    c.expect_steps.ensures c.in_ok-turns.ensures.crossed c.follow.ensures
