use Rattle.std.proofs.Common.{◌≡◌, ℕ, suc, ◌+◌, ◌*◌, ◌<◌, ◌≤◌, ◌⊎◌, ⊎_elim, length, get_or, refl, sym, ◌∙◌, subst, arith, rules}
use Rattle.net_cells.specs.Lists.{no_cell}
use Rattle.squares_build.specs.Steps.{lent}
use Rattle.squares_build.specs.Laid.{Laid}
use Rattle.squares_build.specs.Cells.{IsCellAt}
use Rattle.squares_build.proofs.Laying.{cell_in, cell_out, laid_none, laid_row, laid_put}
use Rattle.squares_build.proofs.steps.Steps.fill_cells.Goals as goal

pub fill_outside-requires-clause-laid : goal.fill_outside-requires-clause-laid
fill_outside-requires-clause-laid c = laid_none (c.args.self.now.wide + 1) (IsCellAt (lent c.args.self.now)) no_cell c.args.cells.now

pub loop-y-init : goal.loop-y-init
loop-y-init c =
    laid_row (c.args.self.now.wide + 1) (IsCellAt (lent c.args.self.now)) no_cell (c.args.self.now.wide + 1) 0 c.fill_outside.new.cells refl c.fill_outside.ensures

pub loop-y-preserved : goal.loop-y-preserved
loop-y-preserved c =
    laid_row (c.args.self.now.wide + 1) (IsCellAt (lent c.args.self.now)) no_cell (c.args.self.now.wide + 1) c.loop-y.y c.fill_row.new.cells refl c.fill_row.ensures

pub fill_outside-requires-2-clause-laid : goal.fill_outside-requires-2-clause-laid
fill_outside-requires-2-clause-laid c =
    let end : c.loop-y.y ≡ c.args.self.now.high = omega (arith, c.args.self.now.high_some) in
    subst (λ (y : ℕ). Laid (c.args.self.now.wide + 1) (IsCellAt (lent c.args.self.now)) no_cell 0 y c.loop-y.cells) end c.loop-y.invariant

pub returns : goal.returns
returns c = λ x y k l.
    let w = c.args.self.now.wide in
    let s = lent c.args.self.now in
    let all = laid_row (w + 1) (IsCellAt s) no_cell (w + 1) c.args.self.now.high c.fill_outside-2.new.cells refl c.fill_outside-2.ensures in
    let e : w + 1 ≡ suc w = omega arith in
    subst (λ (n : ℕ). IsCellAt s x y (get_or c.fill_outside-2.new.cells (y * n + x) no_cell)) e (all.rows x y (omega arith) (omega arith))
