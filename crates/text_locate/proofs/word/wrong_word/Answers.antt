use Rattle.std.proofs.Common.{◌≡◌, false, true, rules, arith}
use Rattle.text_words.specs.Pieces.{words}
use Rattle.text_locate.specs.Word.{is_wrong}
use Rattle.text_locate.proofs.Finding.{wrong_ends, wrong_found, wrong_more}
use Rattle.text_locate.proofs.word.wrong_word.Goals as goal

pub returns-then-is_wrong : goal.returns-then-is_wrong
returns-then-is_wrong c =
    let bad : is_wrong c.in-Some.word.now c.loop-word.k ≡ true = search rules in
    wrong_found c.loop-word.k _ (words c.loop-word.left.now) (words c.in-Some.after.now) c.in-Some.word.now c.in-Some.ensures.0 bad c.loop-word.invariant.same

pub loop-word-preserved : goal.loop-word-preserved
loop-word-preserved c =
    let good : is_wrong c.in-Some.word.now c.loop-word.k ≡ false = search rules in
    record {
      same = wrong_more c.loop-word.k _ (words c.loop-word.left.now) (words c.in-Some.after.now) c.in-Some.word.now c.in-Some.ensures.0 good c.loop-word.invariant.same;
      fits = omega (arith, c.in-Some.ensures.1, c.loop-word.invariant.fits);
    }

pub returns : goal.returns
returns c = wrong_ends c.loop-word.k _ (words c.loop-word.left.now) (search rules) c.loop-word.invariant.same
