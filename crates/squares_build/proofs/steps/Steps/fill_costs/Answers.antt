use Rattle.std.proofs.Common.{◌≡◌, ℕ, suc, ap, ◌+◌, ◌*◌, ◌<◌, length, get_or, subst, arith}
use Rattle.std.proofs.lemmas.Nat.{mul-add-lt}
use Rattle.net_cells.specs.Lists.{no_costs}
use Rattle.squares_build.specs.Steps.{lent}
use Rattle.squares_build.specs.Cells.{CostsAt}
use Rattle.squares_build.proofs.Laying.{laid_none, laid_row, laid_more}
use Rattle.squares_build.proofs.steps.Steps.fill_costs.Goals as goal

pub loop-y-init : goal.loop-y-init
loop-y-init c = laid_none c.stride-stride.result (CostsAt (lent c.args.self.now)) no_costs c.args.costs.now

pub loop-x-preserved : goal.loop-x-preserved
loop-x-preserved c =
    let within : c.loop-y.y * c.stride-stride.result + c.loop-x.x < length c.loop-x.costs =
    omega (arith, ap (λ (n : ℕ). n * (c.args.self.now.high + 1)) c.stride-stride.ensures, mul-add-lt c.loop-y.y c.stride-stride.result c.loop-x.x (c.args.self.now.high + 1) c.loop-y-test.true c.loop-x-test.true) in
    laid_more c.stride-stride.result (CostsAt (lent c.args.self.now)) no_costs c.loop-x.x c.loop-y.y c.loop-x.costs c.costs.result c.loop-x-test.true within c.costs.ensures c.loop-x.invariant

pub loop-y-preserved : goal.loop-y-preserved
loop-y-preserved c =
    laid_row c.stride-stride.result (CostsAt (lent c.args.self.now)) no_costs c.loop-x.x c.loop-y.y c.loop-x.costs (omega (arith, c.loop-x.auto.x-end)) c.loop-x.invariant

pub returns : goal.returns
returns c = λ x y k l.
    let e : c.stride-stride.result ≡ suc c.args.self.now.wide = omega arith in
    subst (λ (n : ℕ). CostsAt (lent c.args.self.now) x y (get_or c.loop-y.costs (y * n + x) no_costs)) e (c.loop-y.invariant.rows x y (omega arith) (omega arith))
