use Rattle.std.proofs.Common.{◌≡◌, ℕ, length, get_or, pos, ap, ◌∙◌, arith, w64, to_z, of_z}
use Rattle.std.proofs.lemmas.Int.{ints}
use Rattle.sums.specs.Sum.{sum_to}
use Rattle.phase_turns.proofs.Adding.{none_yet, one_more}
use Rattle.phase_turns.proofs.Costing.{paid, line_all}
use Rattle.phase_turns.proofs.cost.line_cost.Goals as goal

pub loop-x-init : goal.loop-x-init
loop-x-init c = none_yet _ 2105345000

pub loop-x-preserved : goal.loop-x-preserved
loop-x-preserved c =
    let a = c.args in
    let x = c.loop-x.x in
    let e : to_z w64 (of_z w64 (get_or a.expected.now x (pos 0))) ≡ get_or a.expected.now x (pos 0) = omega (arith, ints, c.requires.expected_small x) in
    let u : to_z w64 (of_z w64 (get_or a.from.now x (pos 0))) ≡ get_or a.from.now x (pos 0) = omega (arith, ints, c.requires.from_most x c.loop-x-test.true) in
    let v : to_z w64 (of_z w64 (get_or a.to.now x (pos 0))) ≡ get_or a.to.now x (pos 0) = omega (arith, ints, c.requires.to_most x c.loop-x-test.true) in
    one_more _ 2105345000 x c.loop-x.cost c.step_cost-cost.result c.loop-x.invariant (rw (e, u, v) at c.step_cost-cost.ensures.is) c.step_cost-cost.ensures.small

pub returns-clause-is : goal.returns-clause-is
returns-clause-is c =
    let a = c.args in
    let e : c.loop-x.x ≡ length a.prices.now = omega arith in
    c.loop-x.invariant.is ∙ ap (λ (n : ℕ). sum_to n (λ x. paid a.prices.now a.expected.now a.from.now a.to.now x x x x)) e ∙ line_all a.prices.now a.expected.now a.from.now a.to.now
