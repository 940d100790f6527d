use Rattle.std.proofs.Common.{refl}
use Rattle.squares_turns.specs.Lists.{field_lent}
use Rattle.squares_turns.proofs.Putting.{back_crossed}
use Rattle.bench_cells.proofs.settle_steps.Goals as goal

pub returns-then-comes_back-clause-crossed : goal.returns-then-comes_back-clause-crossed
returns-then-comes_back-clause-crossed c =
    back_crossed (field_lent c.args.lists.now) c.args.right.now c.args.below.now c.requires.expected (c.if-comes_back.ensures.yes refl)
