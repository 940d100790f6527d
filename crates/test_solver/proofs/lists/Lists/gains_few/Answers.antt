use Rattle.std.proofs.Common.{◌+◌, arith, rules}
use Rattle.std.proofs.lemmas.Int.{ints}
use Rattle.net_graph.specs.Graph.{negative_arc_capacity}
use Rattle.test_solver.specs.Lists.{graph}
use Rattle.sums.proofs.Loop.{sum_ℤ_none, sum_ℤ_more}
use Rattle.test_solver.proofs.Partial.{part_below}
use Rattle.test_solver.proofs.lists.Lists.gains_few.Goals as goal

pub loop-arc-init : goal.loop-arc-init
loop-arc-init c = record { value = omega (arith, ints, sum_ℤ_none (negative_arc_capacity (graph c.args.self.now))); low = omega (arith, ints); high = omega (arith, ints) }

pub returns-then-sum : goal.returns-then-sum
returns-then-sum c = (λ e. search rules, λ p. absurd (omega (arith, ints, p, c.if-sum.true, c.loop-arc.invariant.value, c.loop-arc.invariant.low, c.loop-arc.invariant.high, c.gain-sum.ensures.value, c.gain-sum.ensures.low, c.gain-sum.ensures.high, sum_ℤ_more c.loop-arc.arc-index (negative_arc_capacity (graph c.args.self.now)), part_below (graph c.args.self.now) c.requires (c.loop-arc.arc-index + 1) (omega (arith, c.loop-arc-test.true)))))

pub loop-arc-preserved : goal.loop-arc-preserved
loop-arc-preserved c =
    let I = c.loop-arc.invariant in let E = c.gain-sum.ensures in
    record {
      value = omega (arith, ints, I.value, I.low, I.high, E.value, E.low, E.high, sum_ℤ_more c.loop-arc.arc-index (negative_arc_capacity (graph c.args.self.now)));
      low = omega (arith, ints, I.low, I.high, E.low, E.high);
      high = omega (arith, ints, c.if-sum.false);
    }
