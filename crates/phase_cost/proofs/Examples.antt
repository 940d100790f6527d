-- Worked examples: the definitions, computed.
use Rattle.std.proofs.Common.{zero, suc, [], ◌∷◌, pos, refl, arith}
use Rattle.sums.specs.Sum.{sum_to}
use Rattle.phase_field.specs.Field.{height, step_right, step_below, near, field_in, turns_in}
use Rattle.phase_cost.specs.Cost.{cost}
use Rattle.phase_cost.specs.Cost.{AllComeBack}
use Rattle.phase_cost.specs.Theorems.{ones, HasHeights, TwoRows, HalfUp, HalfOver}

pub two_rows : TwoRows
unfolding cost sum_to height step_right step_below near turns_in
two_rows = (back, refl, reads)
  where
    back : AllComeBack (field_in 4 2 10 (1 ∷ 4 ∷ 7 ∷ 0 ∷ 2 ∷ 5 ∷ 8 ∷ 1 ∷ []) ones ones)
    back zero zero k l = refl
    back (suc zero) zero k l = refl
    back (suc (suc zero)) zero k l = refl
    back (suc (suc (suc x))) zero k l = absurd (omega arith)
    back x (suc y) k l = absurd (omega arith)

    reads : HasHeights (field_in 4 2 10 (1 ∷ 4 ∷ 7 ∷ 0 ∷ 2 ∷ 5 ∷ 8 ∷ 1 ∷ []) ones ones) (turns_in 4 (pos 0 ∷ pos 0 ∷ pos 0 ∷ pos 1 ∷ pos 0 ∷ pos 0 ∷ pos 0 ∷ pos 1 ∷ []))
        (pos 1 ∷ pos 4 ∷ pos 7 ∷ pos 10 ∷ pos 2 ∷ pos 5 ∷ pos 8 ∷ pos 11 ∷ [])
    reads zero zero k l = refl
    reads (suc zero) zero k l = refl
    reads (suc (suc zero)) zero k l = refl
    reads (suc (suc (suc zero))) zero k l = refl
    reads (suc (suc (suc (suc x)))) zero k l = absurd (omega arith)
    reads zero (suc zero) k l = refl
    reads (suc zero) (suc zero) k l = refl
    reads (suc (suc zero)) (suc zero) k l = refl
    reads (suc (suc (suc zero))) (suc zero) k l = refl
    reads (suc (suc (suc (suc x)))) (suc zero) k l = absurd (omega arith)
    reads x (suc (suc y)) k l = absurd (omega arith)

pub half_up : HalfUp
unfolding cost sum_to height step_right step_below near turns_in
half_up = (refl, reads)
  where
    reads : HasHeights (field_in 2 1 10 (0 ∷ 5 ∷ []) ones ones) (turns_in 2 (pos 0 ∷ pos 0 ∷ [])) (pos 0 ∷ pos 5 ∷ [])
    reads zero zero k l = refl
    reads (suc zero) zero k l = refl
    reads (suc (suc x)) zero k l = absurd (omega arith)
    reads x (suc y) k l = absurd (omega arith)

pub half_over : HalfOver
unfolding cost sum_to height step_right step_below near turns_in
half_over = (refl, reads)
  where
    reads : HasHeights (field_in 2 1 10 (5 ∷ 0 ∷ []) ones ones) (turns_in 2 (pos 0 ∷ pos 1 ∷ [])) (pos 5 ∷ pos 10 ∷ [])
    reads zero zero k l = refl
    reads (suc zero) zero k l = refl
    reads (suc (suc x)) zero k l = absurd (omega arith)
    reads x (suc y) k l = absurd (omega arith)
