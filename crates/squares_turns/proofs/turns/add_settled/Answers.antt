use Rattle.squares_turns.specs.Lists.{field_lent}
use Rattle.squares_turns.proofs.Putting.{crossed, few_across}
use Rattle.squares_turns.proofs.turns.add_settled.Goals as goal

pub add_flows-requires-clause-within : goal.add_flows-requires-clause-within
add_flows-requires-clause-within c =
    few_across (field_lent c.args.lists.now) c.args.right.now c.args.below.now c.args.flows.now c.told-cost.result c.told-cost.ensures.solved

pub returns-clause-crossed : goal.returns-clause-crossed
returns-clause-crossed c =
    crossed (field_lent c.args.lists.now) c.args.right.now c.args.below.now c.add_flows.new.to_right c.add_flows.new.to_below c.args.flows.now c.told-cost.result
    c.requires.expected c.told-cost.ensures.solved c.add_flows.ensures.right c.add_flows.ensures.below
