use Rattle.phase_cost.specs.Steps.{steps_in}
use Rattle.squares_turns.specs.Lists.{field_lent}
use Rattle.squares_solve.proofs.Ending.{solved, few_across}
use Rattle.squares_turns.proofs.turns.told.Goals as goal

pub flow_cost-requires-clause-within : goal.flow_cost-requires-clause-within
unfolding steps_in
flow_cost-requires-clause-within c = few_across (steps_in (field_lent c.args.lists.now) c.args.right.now c.args.below.now) c.args.flows.now c.requires.ended

pub returns-clause-solved : goal.returns-clause-solved
unfolding steps_in
returns-clause-solved c = solved (steps_in (field_lent c.args.lists.now) c.args.right.now c.args.below.now) c.args.flows.now c.flow_cost.result c.requires.ended c.flow_cost.ensures.is
