use Rattle.std.proofs.Common.{◌≡◌, ℕ, suc, ◌+◌, ◌*◌, ◌<◌, ◌≤◌, ◌⊎◌, ⊎_elim, length, get_or, ℤ, pos, true, to_z, of_z, w64, ap, sym, ◌∙◌, subst, arith, rules}
use Rattle.net_cells.specs.Lists.{no_cell}
use Rattle.net_cells.specs.declared.cell.Cell.{Cell}
use Rattle.squares_build.specs.Steps.{lent}
use Rattle.squares_build.specs.Laid.{Laid}
use Rattle.squares_build.specs.Cells.{IsCellAt, excess_at}
use Rattle.squares_build.proofs.Laying.{cell_in, cell_out, laid_none, laid_row, laid_put}
use Rattle.squares_build.proofs.steps.Steps.fill_row.Goals as goal

pub loop-x-init : goal.loop-x-init
loop-x-init c =
    let s = lent c.args.self.now in
    let here = c.put.ensures.here ∙ sym (cell_out s 0 c.args.y (λ k. omega (arith, k.x_some))) in
    laid_put (c.args.self.now.wide + 1) (IsCellAt s) no_cell 0 c.args.y (c.args.y * (c.args.self.now.wide + 1)) c.args.cells.now c.put.new.cells (omega arith) here c.put.ensures.kept (omega arith) c.requires.laid

pub loop-x-preserved : goal.loop-x-preserved
loop-x-preserved c =
    let s = lent c.args.self.now in
    let e : to_z w64 (of_z w64 c.excess.result) ≡ excess_at s c.loop-x.x c.args.y = search rules in
    let here = c.put-in-loop-x.ensures.here ∙ (ap (λ (z : ℤ). record { excess = z; potential = pos 0; inner = true }) e ∙ sym (cell_in s c.loop-x.x c.args.y (record { x_some = omega arith; x_below = omega arith; y_some = omega arith; y_below = omega arith }))) in
    laid_put (c.args.self.now.wide + 1) (IsCellAt s) no_cell c.loop-x.x c.args.y (c.args.y * (c.args.self.now.wide + 1) + c.loop-x.x) c.loop-x.cells c.put-in-loop-x.new.cells (omega arith) here c.put-in-loop-x.ensures.kept (omega arith)
    c.loop-x.invariant

pub returns : goal.returns
returns c =
    let s = lent c.args.self.now in
    let w = c.args.self.now.wide in
    let end : c.loop-x.x ≡ w = omega arith in
    let here = c.put-2.ensures.here ∙ sym (cell_out s w c.args.y (λ k. omega (arith, k.x_below))) in
    laid_put (w + 1) (IsCellAt s) no_cell w c.args.y (c.args.y * (w + 1) + w) c.loop-x.cells c.put-2.new.cells (omega arith) here c.put-2.ensures.kept (omega arith)
    (subst (λ (x : ℕ). Laid (w + 1) (IsCellAt s) no_cell x c.args.y c.loop-x.cells) end c.loop-x.invariant)
