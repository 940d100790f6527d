-- Cell by cell.
use Rattle.std.proofs.Common.{List, ℕ, ◌+◌, slice_index, rules, ◌≡◌, ◌≤ℤ◌, ◌<ℤ◌, ◌<◌, length, pos, ℤ, nat_abs, ◌≤◌, ◌^◌, ap₂, w32, to_z, of_z, ap, sym, ◌∙◌, subst, arith}
use Rattle.std.proofs.lemmas.Int.{ints}
use Rattle.net_cells.specs.Lists.{potential_of}
use Rattle.net_cells_search.specs.Marks.{label_of, far}
use Rattle.net_cells_search.specs.Lower.{FallenAt, Forgotten, lowered}
use Rattle.net_cells_search.proofs.Lowering.{fallen_none, fallen_more, label_some, fits}
use Rattle.net_cells_search.proofs.room.Room.lower.Goals as goal

pub loop-k-preserved : goal.loop-k-preserved
loop-k-preserved c =
    let same = c.loop-k.invariant.touched in
    let k = c.loop-k.k in
    let bound = to_z w32 (of_z w32 c.args.self.now.bound) in
    record {
      fallen =
          fallen_more c.args.self.now.touched.now c.args.side bound c.args.cells.now c.args.self.now.marks.now k c.loop-k.cells c.lower_next.new.cells c.loop-k.self.marks.now c.lower_next.new.self.marks.now
          (omega (arith, ints, c.requires.limit)) c.loop-k.invariant.fallen
          (subst (λ (ts : List ℕ). FallenAt c.loop-k.cells c.lower_next.new.cells (slice_index ts k) (lowered c.args.side (label_of c.loop-k.self.marks.now (slice_index ts k)) bound (potential_of c.loop-k.cells (slice_index ts k)))) same c.lower_next.ensures.fallen)
          (subst (λ (ts : List ℕ). Forgotten c.loop-k.self.marks.now c.lower_next.new.self.marks.now (slice_index ts k)) same c.lower_next.ensures.forgotten);
      touched = c.lower_next.ensures.touched ∙ same;
      len = c.lower_next.ensures.len ∙ c.loop-k.invariant.len;
    }
