-- One cell after another; what has nothing in excess gets none.
use Rattle.std.proofs.Common.{◌≡◌, ℕ, ◌+◌, ◌<◌, ◌≢◌, slice_index, pos, ◌≤ℤ◌, ap, sym, ◌∙◌, inl, inr, arith}
use Rattle.std.proofs.lemmas.Int.{ints}
use Rattle.std.proofs.lemmas.Bool.{cases_eq}
use Rattle.net_cells.specs.Lists.{inner_of, excess_in}
use Rattle.net_cells_solve.proofs.Searches.{later_more}
use Rattle.net_cells_solve.proofs.rounds.pass.Goals as goal

pub returns-then-in_vain-cells-clause-later : goal.returns-then-in_vain-cells-clause-later
returns-then-in_vain-cells-clause-later c =
    later_more c.args.cells.now c.loop-k.cells c.drain-met.new.cells c.args.flows.now c.loop-k.flows c.drain-met.new.flows c.args.costs.now c.loop-k.costs c.drain-met.new.costs c.args.side c.loop-k.invariant.later c.drain-met.ensures.later

pub loop-k-preserved : goal.loop-k-preserved
loop-k-preserved c = record {
  fenced = c.drain-met.ensures.fenced;
  sound = c.drain-met.ensures.sound;
  room = c.drain-met.ensures.room;
  blank = c.drain-met.ensures.blank;
  later =
      later_more c.args.cells.now c.loop-k.cells c.drain-met.new.cells c.args.flows.now c.loop-k.flows c.drain-met.new.flows c.args.costs.now c.loop-k.costs c.drain-met.new.costs c.args.side c.loop-k.invariant.later c.drain-met.ensures.later;
  everywhere = λ e j l. elim (cases_eq j c.loop-k.k) [
    | inl z ↦ omega (arith, ints, ap (λ (i : ℕ). excess_in c.drain-met.new.cells c.args.side (slice_index c.args.list.now i)) z, c.drain-met.ensures.everywhere (omega (arith, ints, e)))
    | inr ne ↦ (c.drain-met.ensures.later.shrunk (slice_index c.args.list.now j)
        (c.loop-k.invariant.later.inner (slice_index c.args.list.now j) ∙ c.requires.inner j (omega (arith, l, ne, c.loop-k.auto.k-end, c.loop-k-test.true)))).not_above (c.loop-k.invariant.everywhere e j (omega (arith, l, ne)))
  ];
}
