use Rattle.print.proofs.Reading.{rows_read_back}
use Rattle.print.proofs.back.rows_read_back.Goals as goal

pub returns : goal.returns
returns c = rows_read_back
