use Rattle.std.proofs.Common.{◌∙◌, arith, w64, SFits, rules}
use Rattle.std.proofs.lemmas.Int.{to_z-of_z}
use Rattle.brute_force.proofs.Codes.{none_written, one_written}
use Rattle.brute_force.proofs.write_turns.Goals as goal

pub loop-turns-init : goal.loop-turns-init
loop-turns-init c = none_written _ _

pub loop-turns-preserved : goal.loop-turns-preserved
loop-turns-preserved c =
    let fits : SFits w64 c.first_turns.result = search rules in
    one_written _ _ c.loop-turns.rest _ _ c.loop-turns.invariant (omega arith) (to_z-of_z w64 c.first_turns.result fits ∙ c.first_turns.ensures)
