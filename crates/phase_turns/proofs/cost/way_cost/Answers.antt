use Rattle.std.proofs.Common.{◌≡◌, ℕ, ap, ◌∙◌, arith}
use Rattle.sums.specs.Sum.{sum_to}
use Rattle.phase_turns.proofs.Adding.{none_yet, one_more}
use Rattle.phase_turns.proofs.Costing.{row_paid, row_is, way_all}
use Rattle.phase_turns.proofs.cost.way_cost.Goals as goal

pub loop-y-init : goal.loop-y-init
loop-y-init c = none_yet _ 134742080000

pub loop-y-preserved : goal.loop-y-preserved
loop-y-preserved c =
    let w = c.args.way.now in
    one_more _ 134742080000 c.loop-y.y c.loop-y.cost c.line_cost-cost.result c.loop-y.invariant
    (c.line_cost-cost.ensures.is ∙ row_is c.args.wide w.columns w.ahead c.loop-y.y _ _ _ _ _ _ _ c.part_of.ensures c.part_of-in-loop-y.ensures c.part_of-in-loop-y-2.ensures c.part_of-in-loop-y-3.ensures)
    c.line_cost-cost.ensures.small

pub returns-clause-is : goal.returns-clause-is
returns-clause-is c =
    let w = c.args.way.now in
    let e : c.loop-y.y ≡ w.rows = omega arith in
    c.loop-y.invariant.is ∙ ap (λ (n : ℕ). sum_to n (row_paid c.args.wide w.columns w.ahead w.prices.now w.expected.now c.args.room.now)) e
    ∙ way_all c.args.wide w.rows w.columns w.ahead w.prices.now w.expected.now c.args.room.now
