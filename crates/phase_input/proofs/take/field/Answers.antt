use Rattle.std.proofs.Common.{arith}
use Rattle.phase_field.proofs.Parts.{few_places}
use Rattle.phase_input.proofs.Holding.{same_lists}
use Rattle.phase_input.proofs.Lists.{get_or_same, small_everywhere}
use Rattle.phase_input.proofs.take.field.Goals as goal

pub put-requires-clause-few : goal.put-requires-clause-few
put-requires-clause-few c =
    let t = c.requires in
    omega (arith, few_places _ _ t.sized.wide_fits t.sized.high_fits, t.seen_fits.long)

pub put-requires-clause-none : goal.put-requires-clause-none
put-requires-clause-none c = λ k. get_or_same 4096 k 0

pub put-requires-2-clause-few : goal.put-requires-2-clause-few
put-requires-2-clause-few c =
    let t = c.requires in
    omega (arith, few_places _ _ t.sized.wide_fits t.sized.high_fits, t.right_fits.long)

pub put-requires-2-clause-none : goal.put-requires-2-clause-none
put-requires-2-clause-none c = λ k. get_or_same 4096 k 0

pub put-requires-3-clause-few : goal.put-requires-3-clause-few
put-requires-3-clause-few c =
    let t = c.requires in
    omega (arith, few_places _ _ t.sized.wide_fits t.sized.high_fits, t.below_fits.long)

pub put-requires-3-clause-none : goal.put-requires-3-clause-none
put-requires-3-clause-none c = λ k. get_or_same 4096 k 0

pub invariant_of-field : goal.invariant_of-field
invariant_of-field c =
    let t = c.requires in record {
      wide_some = t.sized.wide_some;
      wide_fits = t.sized.wide_fits;
      high_some = t.sized.high_some;
      high_fits = t.sized.high_fits;
      turn_some = t.sized.turn_some;
      turn_fits = t.sized.turn_fits;
      seen_fits = λ k. omega (arith, c.put.ensures k, small_everywhere _ _ _ t.seen_fits (omega arith) k);
      right_fits = λ k. omega (arith, c.put-2.ensures k, small_everywhere _ _ _ t.right_fits (omega arith) k);
      below_fits = λ k. omega (arith, c.put-3.ensures k, small_everywhere _ _ _ t.below_fits (omega arith) k);
    }

pub returns : goal.returns
returns c =
    let l = c.args.input.now in
    same_lists l.wide l.high l.turn _ l.seen.now _ l.right.now _ l.below.now c.put.ensures c.put-2.ensures c.put-3.ensures
