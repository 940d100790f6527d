use Rattle.std.proofs.Common.{◌≡◌, length}
use Rattle.std.specs.List.{slice_get}
use Rattle.text_words.specs.Pieces.{lines, unmarked}
use Rattle.text_locate.proofs.word.line_at.Given as goal

abbrev pub invariant-loop-first : goal.invariant-loop-first
invariant-loop-first l = slice_get (lines l.left) l.line ≡ slice_get (lines (unmarked l.text)) l.n

abbrev pub decreases-loop-first : goal.decreases-loop-first
decreases-loop-first l = length l.left
