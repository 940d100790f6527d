use Rattle.std.proofs.Common.{◌≡◌, vec_items}
use Rattle.text_words.specs.Pieces.{words}
use Rattle.text.specs.Section.{row_onto}
use Rattle.text.proofs.section.push_row.Given as goal

abbrev pub invariant-loop-word : goal.invariant-loop-word
invariant-loop-word l = record {
  can : (goal.iterator-loop-word).can_next l.word-iterator;
  ends : (goal.iterator-loop-word).is_finite l.word-iterator;
  read : row_onto (vec_items l.numbers) (words l.word-iterator.0.now) ≡ row_onto (vec_items l.initial.numbers) (words l.line);
}
