-- Round after round.
use Rattle.std.proofs.Common.{◌≡◌, ℕ, ◌<◌, ◌∙◌, sym, refl, rules, length, slice_index, arith}
use Rattle.std.proofs.lemmas.Int.{ints}
use Rattle.net_cells_solve.specs.Listing.{ahead}
use Rattle.net_cells_solve.proofs.Searches.{later_none, later_more}
use Rattle.net_cells_solve.proofs.Listings.{later_listing, all_none}
use Rattle.net_cells_solve.proofs.rounds.settle.Goals as goal

pub keep-kept-requires-clause-listing : goal.keep-kept-requires-clause-listing
keep-kept-requires-clause-listing c =
    later_listing c.loop-within.cells c.round.new.cells c.loop-within.flows c.round.new.flows c.loop-within.costs c.round.new.costs c.args.stride c.round.ensures.later c.loop-within.list c.loop-within.count (search rules)
    c.loop-within.invariant.listing

pub loop-within-init : goal.loop-within-init
loop-within-init c = record {
  fenced = c.requires.fenced;
  sound = c.requires.sound;
  room = c.requires.room;
  blank = c.requires.blank;
  later = later_none c.args.cells.now c.args.flows.now c.args.costs.now (ahead c.args.stride);
  few = omega arith;
  listing = c.requires.listing;
  some = omega (arith, ints, c.requires.first);
}

pub loop-within-preserved : goal.loop-within-preserved
loop-within-preserved c = record {
  fenced = c.round.ensures.fenced;
  sound = c.round.ensures.sound;
  room = c.round.ensures.room;
  blank = c.round.ensures.blank;
  later =
      later_more c.args.cells.now c.loop-within.cells c.round.new.cells c.args.flows.now c.loop-within.flows c.round.new.flows c.args.costs.now c.loop-within.costs c.round.new.costs (ahead c.args.stride) c.loop-within.invariant.later
      c.round.ensures.later;
  few = c.keep-kept.ensures.count;
  listing = c.keep-kept.ensures.listing;
  some = omega (arith, ints, c.wider-within.ensures.more, c.wider-within.type_inv, c.loop-within.invariant.some);
}

pub returns-clause-later : goal.returns-clause-later
returns-clause-later c =
    later_more c.args.cells.now c.loop-within.cells c.round-2.new.cells c.args.flows.now c.loop-within.flows c.round-2.new.flows c.args.costs.now c.loop-within.costs c.round-2.new.costs (ahead c.args.stride) c.loop-within.invariant.later
    c.round-2.ensures.later

pub returns-clause-settled : goal.returns-clause-settled
returns-clause-settled c = λ u i.
    all_none c.loop-within.cells c.round-2.new.cells c.loop-within.flows c.round-2.new.flows c.loop-within.costs c.round-2.new.costs c.args.stride c.round-2.ensures.later c.loop-within.list c.loop-within.count
    c.loop-within.invariant.listing (c.round-2.ensures.everywhere refl) u (c.loop-within.invariant.later.inner u ∙ i)
