use Rattle.std.proofs.Common.{◌≡◌, ◌+◌, ◌≤◌, length}
use Rattle.text_words.specs.Pieces.{lines}
use Rattle.text.specs.Draft.{notes}
use Rattle.text.specs.Document.{read_from, reading}
use Rattle.text.proofs.document.read.Given as goal

abbrev pub invariant-loop-number : goal.invariant-loop-number
invariant-loop-number l = record {
  can : (goal.iterator-loop-number).can_next l.number-iterator;
  ends : (goal.iterator-loop-number).is_finite l.number-iterator;
  fits : l.number-iterator.count + length (lines l.number-iterator.iter.0.now) ≤ length l.text;
  read : read_from l.number-iterator.count (notes l.draft) (lines l.number-iterator.iter.0.now) ≡ reading l.text;
}
