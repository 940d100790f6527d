use Rattle.std.proofs.Common.{true-eqb}
use Rattle.text_words.specs.declared.pieces.Mark.TheVariants.{Newline}
use Rattle.text_words.proofs.Cuts.{pieces_none}
use Rattle.text_words.proofs.pieces.next_line.Goals as goal

pub returns-then-is_empty : goal.returns-then-is_empty
returns-then-is_empty c = pieces_none Newline c.args.text.now (true-eqb _ 0 c.if-is_empty.ensures)
