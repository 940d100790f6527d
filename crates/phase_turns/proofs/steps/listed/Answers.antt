use Rattle.std.proofs.Common.{refl, arith}
use Rattle.phase_turns.proofs.Filling.{filled_none}
use Rattle.phase_turns.proofs.steps.listed.Goals as goal

pub loop-place-init : goal.loop-place-init
loop-place-init g c = record {
  callable = c.requires.callable;
  long = refl;
  told = λ p l. absurd (omega arith);
  none = λ p l. filled_none 4096 p;
}
