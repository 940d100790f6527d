use Rattle.std.proofs.Common.{◌≡◌, ℕ, suc, ◌+◌, ◌*◌, length, subst, sym, ap, ◌∙◌, arith, rules}
use Rattle.net_cells.specs.Fenced.{Fenced}
use Rattle.net_cells.specs.Sound.{Sound}
use Rattle.net_cells_solve.specs.Listing.{ahead}
use Rattle.squares_cells.specs.Squares.{cells}
use Rattle.squares_build.specs.Steps.{lent}
use Rattle.squares_solve.proofs.Listing.{listed_part}
use Rattle.squares_solve.proofs.Starting.{fenced, taken, ended_at}
use Rattle.squares_solve.proofs.solver.solve.Goals as goal

pub settle-requires-clause-listing : goal.settle-requires-clause-listing
settle-requires-clause-listing c = listed_part c.lay_out-count.new.cells c.lay_out-count.new.list c.lay_out-count.result c.lay_out-count.ensures.count c.lay_out-count.ensures.listed

pub settle-requires-clause-fenced : goal.settle-requires-clause-fenced
settle-requires-clause-fenced c =
    let t = c.args.steps.now in
    let e : c.stride-stride.result ≡ suc t.wide = omega (arith, c.stride-stride.ensures) in
    let long : length c.lay_out-count.new.cells ≡ cells (lent t) = omega (arith, c.lay_out-count.auto.cells, c.requires.room.cells) in
    let same : length c.lay_out-count.new.costs ≡ length c.lay_out-count.new.cells = omega (arith, c.lay_out-count.auto.costs, c.requires.room.costs, long) in
    subst (λ (n : ℕ). Fenced c.lay_out-count.new.cells c.lay_out-count.new.costs (ahead n)) (sym e)
    (fenced (lent t) c.lay_out-count.new.cells c.lay_out-count.new.costs c.args.room.now.flows.now c.lay_out-count.ensures.cells long c.lay_out-count.ensures.costs t.wide_fits t.high_fits same (λ x y. t.right_small (y * t.wide + x)) (λ x y. t.below_small (y * t.wide + x)))

pub settle-requires-clause-sound : goal.settle-requires-clause-sound
settle-requires-clause-sound c =
    let t = c.args.steps.now in
    let e : c.stride-stride.result ≡ suc t.wide = omega (arith, c.stride-stride.ensures) in
    let long : length c.lay_out-count.new.cells ≡ cells (lent t) = omega (arith, c.lay_out-count.auto.cells, c.requires.room.cells) in
    let same : length c.args.room.now.flows.now ≡ length c.lay_out-count.new.cells = omega (arith, c.requires.room.flows, long) in
    subst (λ (n : ℕ). Sound c.lay_out-count.new.cells c.args.room.now.flows.now c.lay_out-count.new.costs (ahead n)) (sym e)
    (taken (lent t) c.lay_out-count.new.cells c.lay_out-count.new.costs c.args.room.now.flows.now c.lay_out-count.ensures.cells long c.lay_out-count.ensures.costs t.wide_fits t.high_fits same c.requires.room.none c.requires.few)

pub returns-clause-ended : goal.returns-clause-ended
returns-clause-ended c =
    let t = c.args.steps.now in
    let long : length c.lay_out-count.new.cells ≡ cells (lent t) = omega (arith, c.lay_out-count.auto.cells, c.requires.room.cells) in
    ended_at (lent t) c.stride-stride.result (omega (arith, c.stride-stride.ensures)) c.lay_out-count.new.cells c.settle.new.cells c.lay_out-count.new.costs c.settle.new.costs c.args.room.now.flows.now c.settle.new.flows c.lay_out-count.ensures.cells long c.lay_out-count.ensures.costs t.wide_fits t.high_fits c.requires.room.none c.requires.few c.requires.some c.settle.ensures.sound c.settle.ensures.later c.settle.ensures.settled
