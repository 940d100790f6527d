use Rattle.print.proofs.Reading.{rows_read_again}
use Rattle.print.proofs.back.rows_read_again.Goals as goal

pub returns : goal.returns
returns c = rows_read_again
