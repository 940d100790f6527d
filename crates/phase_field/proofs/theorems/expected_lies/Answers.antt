-- So do the expected steps of a field.
use Rattle.phase_field.proofs.Near.{expected_lies}
use Rattle.phase_field.proofs.theorems.expected_lies.Goals as goal

pub returns : goal.returns
returns c = expected_lies
