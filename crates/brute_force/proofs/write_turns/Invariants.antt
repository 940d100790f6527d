use Rattle.brute_force.proofs.Codes.{Written}
use Rattle.brute_force.proofs.write_turns.Given as goal

abbrev pub invariant-loop-turns : goal.invariant-loop-turns
invariant-loop-turns l = Written l.code l.turns-index l.rest l.room
