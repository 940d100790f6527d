use Rattle.std.proofs.Common.{refl, arith}
use Rattle.squares_build.specs.Steps.{lent}
use Rattle.squares_build.proofs.Laying.{none_back, back_row}
use Rattle.squares_build.proofs.steps.Steps.comes_back.Goals as goal

pub returns-then-not-row_comes_back-clause-no : goal.returns-then-not-row_comes_back-clause-no
returns-then-not-row_comes_back-clause-no c = λ e n. c.if-not-row_comes_back.ensures.no refl (back_row (lent c.args.self.now) c.loop-y.y (omega arith) (omega arith) n)

pub returns-clause-yes : goal.returns-clause-yes
returns-clause-yes c = λ e. none_back (lent c.args.self.now) c.loop-y.y c.loop-y.invariant (omega arith)
