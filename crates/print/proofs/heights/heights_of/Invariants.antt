use Rattle.std.proofs.Common.{◌≡◌, ◌++◌, vec_items}
use Rattle.std.specs.Iterator.Adapters.{zip_first, zip_second}
use Rattle.std.specs.Slice.Iter.{iter_rest}
use Rattle.print.specs.Heights.{heights_of}
use Rattle.print.proofs.heights.heights_of.Given as goal

abbrev pub invariant-loop-s : goal.invariant-loop-s
invariant-loop-s l =
    vec_items l.heights ++ heights_of l.turn (iter_rest (zip_first l.s-iterator)) (iter_rest (zip_second l.s-iterator)) ≡ heights_of l.turn l.seen l.turns
