use Rattle.std.proofs.Common.{pos, ◌-ℤ◌, sym, arith}
use Rattle.std.proofs.lemmas.Int.{ints}
use Rattle.phase_field.proofs.Near.{wrap_high, wrap_low, wrap_same}
use Rattle.phase_field.proofs.steps.wrap_count.Goals as goal

pub returns-then-jump-turn-clause-is : goal.returns-then-jump-turn-clause-is
returns-then-jump-turn-clause-is c =
    sym (wrap_high c.args.turn (pos c.args.to -ℤ pos c.args.from) (omega (arith, ints, c.from.ensures, c.from-2.ensures, c.from-turn.ensures, c.if-jump-turn.true)))

pub returns-then-jump-turn-2-clause-is : goal.returns-then-jump-turn-2-clause-is
returns-then-jump-turn-2-clause-is c =
    sym (wrap_low c.args.turn (pos c.args.to -ℤ pos c.args.from) (omega (arith, ints, c.from.ensures, c.from-2.ensures, c.from-turn.ensures, c.if-jump-turn-2.true)))

pub returns-else-jump-turn-2-clause-is : goal.returns-else-jump-turn-2-clause-is
returns-else-jump-turn-2-clause-is c =
    sym (wrap_same c.args.turn (pos c.args.to -ℤ pos c.args.from)
    (omega (arith, ints, c.from.ensures, c.from-2.ensures, c.from-turn.ensures, c.if-jump-turn-2.false))
    (omega (arith, ints, c.from.ensures, c.from-2.ensures, c.from-turn.ensures, c.if-jump-turn.false)))
