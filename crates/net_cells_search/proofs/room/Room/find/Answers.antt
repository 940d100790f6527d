-- From its beginning to its end.
use Rattle.std.proofs.Common.{◌≡◌, refl, ◌∙◌, length, rules, ◌<◌, arith}
use Rattle.std.proofs.lemmas.Int.{ints}
use Rattle.net_cells.specs.Lists.{view}
use Rattle.net_cells_search.proofs.Relaxing.{at_first}
use Rattle.net_cells_search.proofs.room.Room.find.Goals as goal

pub loop-side-init : goal.loop-side-init
loop-side-init c = record {
  room = search rules;
  is_source = c.begin.ensures.started.is_source;
  is_within = c.begin.ensures.started.is_within;
  going =
      at_first c.args.cells.now c.args.costs.now c.args.side c.args.source _ c.args.self.now c.begin.new.self c.requires.blank c.requires.room (search rules) c.begin.ensures.started c.requires.inner c.requires.cell
      c.requires.excess (omega (arith, ints, c.requires.ahead)) (omega (arith, ints, c.requires.near));
}

pub loop-side-preserved : goal.loop-side-preserved
loop-side-preserved c = record {
  room = c.loop-side-test.ensures.room;
  is_source = c.loop-side-test.ensures.task.source ∙ c.loop-side.invariant.is_source;
  is_within = c.loop-side-test.ensures.task.within ∙ c.loop-side.invariant.is_within;
  going = c.loop-side-test.ensures.going refl;
}

pub returns-clause-stopped : goal.returns-clause-stopped
returns-clause-stopped c = c.loop-side-test.ensures.stopped refl
