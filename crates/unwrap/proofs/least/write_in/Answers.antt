use Rattle.squares_turns.proofs.Putting.{few_in_64}
use Rattle.unwrap.proofs.least.write_in.Goals as goal

pub returns-clause-small : goal.returns-clause-small
returns-clause-small g c =
    let f = c.args.field.now in
    few_in_64 f.wide f.high c.lists.result.wide c.lists.result.high c.write_by.new.room c.lists.ensures.wide c.lists.ensures.high f.wide_fits f.high_fits c.write_by.ensures.small
