use Rattle.std.proofs.Common.{◌≡◌, ◌+ℤ◌, arith, w64, to_z, of_z}
use Rattle.std.proofs.lemmas.Int.{ints}
use Rattle.phase_turns.proofs.residue.against.Goals as goal

pub returns : goal.returns
returns c =
    let a = c.args in
    let over : to_z w64 (of_z w64 (to_z w64 (of_z w64 a.right) +ℤ to_z w64 (of_z w64 a.then_below))) ≡ a.right +ℤ a.then_below = omega (arith, ints, c.requires.right, c.requires.then_below) in
    let under : to_z w64 (of_z w64 (to_z w64 (of_z w64 a.below) +ℤ to_z w64 (of_z w64 a.then_right))) ≡ a.below +ℤ a.then_right = omega (arith, ints, c.requires.below, c.requires.then_right) in
    rw (over, under) (omega (arith, ints, c.requires.right, c.requires.then_below, c.requires.below, c.requires.then_right))
