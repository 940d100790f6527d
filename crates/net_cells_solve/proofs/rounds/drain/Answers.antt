-- One augmentation after another.
use Rattle.net_cells_solve.proofs.Searches.{later_more}
use Rattle.net_cells_solve.proofs.rounds.drain.Goals as goal

pub returns-then-not-augment-clause-later : goal.returns-then-not-augment-clause-later
returns-then-not-augment-clause-later c =
    later_more c.args.cells.now c.loop-side.cells c.augment.new.cells c.args.flows.now c.loop-side.flows c.augment.new.flows c.args.costs.now c.loop-side.costs c.augment.new.costs c.args.side c.loop-side.invariant.later c.augment.ensures.later

pub loop-side-preserved : goal.loop-side-preserved
loop-side-preserved c = record {
  fenced = c.augment.ensures.fenced;
  sound = c.augment.ensures.sound;
  room = c.augment.ensures.room;
  blank = c.augment.ensures.blank;
  later =
      later_more c.args.cells.now c.loop-side.cells c.augment.new.cells c.args.flows.now c.loop-side.flows c.augment.new.flows c.args.costs.now c.loop-side.costs c.augment.new.costs c.args.side c.loop-side.invariant.later c.augment.ensures.later;
}
