use Rattle.std.proofs.Common.{inl, arith}
use Rattle.text_words.proofs.Cuts.{length_words}
use Rattle.text_locate.proofs.word.word_count.Goals as goal

pub count-requires-clause-fits : goal.count-requires-clause-fits
count-requires-clause-fits c = let few = length_words c.args.line.now in inl (omega arith)
