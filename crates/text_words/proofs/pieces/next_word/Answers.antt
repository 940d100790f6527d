use Rattle.std.proofs.Common.{true-eqb}
use Rattle.text_words.proofs.Cuts.{words_none}
use Rattle.text_words.proofs.pieces.next_word.Goals as goal

pub returns : goal.returns
returns c = words_none c.loop-rest.rest.now c.args.line.now (true-eqb _ 0 c.loop-rest-test.ensures) c.loop-rest.invariant.0
