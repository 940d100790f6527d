use Rattle.std.proofs.Common.{◌≡◌, ℕ, ◌<◌, false, drop}
use Rattle.text_words.specs.Pieces.{parts}
use Rattle.text_words.proofs.pieces.piece_len.Given as goal

abbrev pub invariant-loop-k : goal.invariant-loop-k
invariant-loop-k l = (j : ℕ) → j < l.k → parts l.mark (drop j l.text) ≡ false
