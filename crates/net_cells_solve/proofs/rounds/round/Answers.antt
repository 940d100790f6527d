-- From one side, and then from the other.
use Rattle.std.proofs.Common.{◌≡◌, ℕ, ◌<◌, ◌∙◌, sym, refl, rules, length, slice_index, arith}
use Rattle.std.proofs.lemmas.Int.{ints}
use Rattle.net_cells_solve.specs.Listing.{ahead, behind}
use Rattle.net_cells_solve.proofs.Turning.{to_behind, to_ahead, turned, turned_fence, turned_later}
use Rattle.net_cells_solve.proofs.Searches.{later_more}
use Rattle.net_cells_solve.proofs.Listings.{none_left}
use Rattle.net_cells_solve.proofs.rounds.round.Goals as goal

pub pass-requires-2-clause-fenced : goal.pass-requires-2-clause-fenced
pass-requires-2-clause-fenced c =
    turned_fence c.pass.new.cells c.pass.new.flows c.pass.new.costs (ahead c.args.stride) (behind c.args.stride) (to_behind c.pass.new.cells c.pass.new.flows c.pass.new.costs c.args.stride c.pass.ensures.fenced.stride c.pass.ensures.fenced.low) c.pass.ensures.fenced

pub pass-requires-2-clause-sound : goal.pass-requires-2-clause-sound
pass-requires-2-clause-sound c =
    turned c.pass.new.cells c.pass.new.flows c.pass.new.costs (ahead c.args.stride) (behind c.args.stride) (to_behind c.pass.new.cells c.pass.new.flows c.pass.new.costs c.args.stride c.pass.ensures.fenced.stride c.pass.ensures.fenced.low) c.pass.ensures.sound

pub returns-clause-fenced : goal.returns-clause-fenced
returns-clause-fenced c =
    turned_fence c.pass-2.new.cells c.pass-2.new.flows c.pass-2.new.costs (behind c.args.stride) (ahead c.args.stride) (to_ahead c.pass-2.new.cells c.pass-2.new.flows c.pass-2.new.costs c.args.stride c.pass-2.ensures.fenced.stride c.pass-2.ensures.fenced.low) c.pass-2.ensures.fenced

pub returns-clause-sound : goal.returns-clause-sound
returns-clause-sound c =
    turned c.pass-2.new.cells c.pass-2.new.flows c.pass-2.new.costs (behind c.args.stride) (ahead c.args.stride) (to_ahead c.pass-2.new.cells c.pass-2.new.flows c.pass-2.new.costs c.args.stride c.pass-2.ensures.fenced.stride c.pass-2.ensures.fenced.low) c.pass-2.ensures.sound

pub returns-clause-later : goal.returns-clause-later
returns-clause-later c =
    later_more c.args.cells.now c.pass.new.cells c.pass-2.new.cells c.args.flows.now c.pass.new.flows c.pass-2.new.flows c.args.costs.now c.pass.new.costs c.pass-2.new.costs (ahead c.args.stride) c.pass.ensures.later
    (turned_later c.pass.new.cells c.pass-2.new.cells c.pass.new.flows c.pass-2.new.flows c.pass.new.costs c.pass-2.new.costs (behind c.args.stride) (ahead c.args.stride) (to_ahead c.pass.new.cells c.pass.new.flows c.pass.new.costs c.args.stride c.pass.ensures.fenced.stride c.pass.ensures.fenced.low) (to_ahead c.pass-2.new.cells c.pass-2.new.flows c.pass-2.new.costs c.args.stride c.pass-2.ensures.fenced.stride c.pass-2.ensures.fenced.low) (turned c.pass.new.cells c.pass.new.flows c.pass.new.costs (ahead c.args.stride) (behind c.args.stride) (to_behind c.pass.new.cells c.pass.new.flows c.pass.new.costs c.args.stride c.pass.ensures.fenced.stride c.pass.ensures.fenced.low) c.pass.ensures.sound) c.pass-2.ensures.sound c.pass-2.ensures.later)

pub returns-clause-everywhere : goal.returns-clause-everywhere
returns-clause-everywhere c =
    λ e k l.
    none_left c.args.cells.now c.pass.new.cells c.pass-2.new.cells c.pass.new.flows c.pass-2.new.flows c.pass.new.costs c.pass-2.new.costs c.args.stride (slice_index c.args.list.now k) c.pass-2.ensures.later
    (c.pass.ensures.later.inner (slice_index c.args.list.now k) ∙ c.requires.inner k l) (c.pass.ensures.everywhere (omega (arith, ints, e)) k l) (c.pass-2.ensures.everywhere (omega (arith, ints, e)) k l)
