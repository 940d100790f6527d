use Rattle.std.proofs.Common.{◌≡◌, ℕ, suc, ◌+◌, ◌*◌, ◌<◌, ◌≤◌, ◌⊎◌, ⊎_elim, length, get_or, sym, ◌∙◌, subst, arith, rules}
use Rattle.net_cells.specs.Lists.{no_cell}
use Rattle.squares_build.specs.Steps.{lent}
use Rattle.squares_build.specs.Laid.{Laid}
use Rattle.squares_build.specs.Cells.{IsCellAt}
use Rattle.squares_build.proofs.Laying.{cell_in, cell_out, laid_none, laid_row, laid_put}
use Rattle.squares_build.proofs.steps.Steps.fill_outside.Goals as goal

pub loop-x-init : goal.loop-x-init
loop-x-init c = c.requires.laid

pub loop-x-preserved : goal.loop-x-preserved
loop-x-preserved c =
    let s = lent c.args.self.now in
    let here = c.put.ensures.here ∙ sym (cell_out s c.loop-x.x c.args.y (λ k. ⊎_elim (λ e. omega (arith, e, k.y_some)) (λ e. omega (arith, e, k.y_below)) c.requires.edge)) in
    laid_put (c.args.self.now.wide + 1) (IsCellAt s) no_cell c.loop-x.x c.args.y (c.args.y * (c.args.self.now.wide + 1) + c.loop-x.x) c.loop-x.cells c.put.new.cells (omega arith) here c.put.ensures.kept c.loop-x-test.true c.loop-x.invariant

pub returns : goal.returns
returns c =
    let e : c.loop-x.x ≡ c.args.self.now.wide + 1 = omega (arith, c.loop-x.auto.x-end) in
    subst (λ (x : ℕ). Laid (c.args.self.now.wide + 1) (IsCellAt (lent c.args.self.now)) no_cell x c.args.y c.loop-x.cells) e c.loop-x.invariant
