use Rattle.std.proofs.Common.{add-one}
use Rattle.text_words.proofs.Cuts.{pieces_first}
use Rattle.text_words.proofs.pieces.first_piece.Goals as goal

pub returns-clause-first : goal.returns-clause-first
returns-clause-first c =
    let p = c.around.ensures.before in
    let q = rw add-one at c.around.ensures.after in
    let e = pieces_first c.args.mark c.args.text.now c.piece_len.result c.requires c.piece_len.ensures.within c.piece_len.ensures.before c.piece_len.ensures.found in
    cc
