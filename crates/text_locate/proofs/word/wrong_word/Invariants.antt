use Rattle.std.proofs.Common.{◌≡◌, ◌+◌, ◌≤◌, length}
use Rattle.text_words.specs.Pieces.{words}
use Rattle.text_locate.specs.Word.{wrong_from}
use Rattle.text_locate.proofs.word.wrong_word.Given as goal

abbrev pub invariant-loop-word : goal.invariant-loop-word
invariant-loop-word l = record {
  same : wrong_from l.k (words l.left) ≡ wrong_from 0 (words l.line);
  fits : l.k + length l.left ≤ length l.line;
}

abbrev pub decreases-loop-word : goal.decreases-loop-word
decreases-loop-word l = length l.left
