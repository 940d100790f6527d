use Rattle.std.proofs.Common.{◌≡◌, ◌+◌, ◌≤◌, length}
use Rattle.text_words.specs.Pieces.{lines, unmarked}
use Rattle.text_locate.specs.Word.{cell_from}
use Rattle.text_locate.proofs.word.cell.Given as goal

abbrev pub invariant-loop-first : goal.invariant-loop-first
invariant-loop-first l = record {
  same : cell_from l.line (lines l.left) l.word ≡ cell_from 0 (lines (unmarked l.text)) l.n;
  fits : l.line + length l.left ≤ length l.text;
}

abbrev pub decreases-loop-first : goal.decreases-loop-first
decreases-loop-first l = length l.left
