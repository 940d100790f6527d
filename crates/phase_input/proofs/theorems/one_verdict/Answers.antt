use Rattle.phase_input.proofs.Judging.{one_verdict}
use Rattle.phase_input.proofs.theorems.one_verdict.Goals as goal

pub returns : goal.returns
returns c = one_verdict
