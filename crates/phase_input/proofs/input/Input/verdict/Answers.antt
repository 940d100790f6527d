use Rattle.phase_input.specs.Lent.{input_of}
use Rattle.phase_input.proofs.Judging.{verdict_is}
use Rattle.phase_input.proofs.input.Input.verdict.Goals as goal

pub returns-clause-value : goal.returns-clause-value
returns-clause-value c = verdict_is (input_of c.args.self.now c.args.room) c.first_reason.result c.first_reason.ensures
