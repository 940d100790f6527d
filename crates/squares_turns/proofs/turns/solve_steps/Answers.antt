use Rattle.phase_cost.specs.Steps.{steps_in}
use Rattle.squares_turns.specs.Lists.{field_lent}
use Rattle.squares_turns.proofs.Fitting.{lent_fit}
use Rattle.squares_turns.proofs.Putting.{few_residues}
use Rattle.squares_turns.proofs.turns.solve_steps.Goals as goal

pub solve-requires-clause-few : goal.solve-requires-clause-few
unfolding steps_in
solve-requires-clause-few c = few_residues (field_lent c.args.lists.now) c.args.right.now c.args.below.now (lent_fit c.args.lists.now) c.requires.expected
