use Rattle.std.proofs.Common.{◌≡◌, length}
use Rattle.std.specs.List.{slice_get}
use Rattle.text_words.specs.Pieces.{words}
use Rattle.text_locate.proofs.word.nth_word.Given as goal

abbrev pub invariant-loop-word : goal.invariant-loop-word
invariant-loop-word l = slice_get (words l.left) l.k ≡ slice_get (words l.line) l.n

abbrev pub decreases-loop-word : goal.decreases-loop-word
decreases-loop-word l = length l.left
