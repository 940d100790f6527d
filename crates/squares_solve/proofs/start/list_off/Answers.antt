use Rattle.std.proofs.Common.{◌<◌, length, arith}
use Rattle.squares_solve.proofs.Listing.{listed_none, listed_next, listed_all}
use Rattle.squares_solve.proofs.start.list_off.Goals as goal

pub loop-v-init : goal.loop-v-init
loop-v-init c = listed_none c.args.cells.now c.args.list.now

pub loop-v-preserved : goal.loop-v-preserved
loop-v-preserved c =
    listed_next c.args.cells.now c.loop-v.list c.list_one-count.new.list c.loop-v.count c.list_one-count.result c.loop-v.v c.requires.outside c.list_one-count.ensures.last c.list_one-count.ensures.kept c.list_one-count.ensures.counted c.loop-v.invariant

pub returns-clause-listed : goal.returns-clause-listed
returns-clause-listed c = listed_all c.args.cells.now c.loop-v.list c.loop-v.count c.loop-v.v (omega arith) c.loop-v.invariant
