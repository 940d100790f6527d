use Rattle.std.proofs.Common.{◌≡◌, ◌+◌, ◌≤◌, length}
use Rattle.text_words.specs.Pieces.{lines, unmarked}
use Rattle.text_locate.specs.Word.{said_from}
use Rattle.text_locate.proofs.word.said.Given as goal

abbrev pub invariant-loop-first : goal.invariant-loop-first
invariant-loop-first l = record {
  same : said_from l.keyword l.line (lines l.left) ≡ said_from l.keyword 0 (lines (unmarked l.text));
  fits : l.line + length l.left ≤ length l.text;
}

abbrev pub decreases-loop-first : goal.decreases-loop-first
decreases-loop-first l = length l.left
