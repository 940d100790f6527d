use Rattle.std.proofs.Common.{◌≡◌, false, true, rules, arith}
use Rattle.text_words.specs.Pieces.{lines, words}
use Rattle.text_locate.specs.Word.{is_said}
use Rattle.text_locate.proofs.Finding.{said_ends, said_found, said_more}
use Rattle.text_locate.proofs.word.said.Goals as goal

pub returns-then-is_said : goal.returns-then-is_said
returns-then-is_said c =
    let yes : is_said c.args.keyword (words c.in-Some.first.now) ≡ true = search rules in
    said_found c.args.keyword c.loop-first.line (lines c.loop-first.left.now) (lines c.in-Some.after.now) c.in-Some.first.now _ c.in-Some.ensures.0 yes c.loop-first.invariant.same

pub loop-first-preserved : goal.loop-first-preserved
loop-first-preserved c =
    let no : is_said c.args.keyword (words c.in-Some.first.now) ≡ false = search rules in
    record {
      same = said_more c.args.keyword c.loop-first.line (lines c.loop-first.left.now) (lines c.in-Some.after.now) c.in-Some.first.now _ c.in-Some.ensures.0 no c.loop-first.invariant.same;
      fits = omega (arith, c.in-Some.ensures.1, c.loop-first.invariant.fits);
    }

pub returns : goal.returns
returns c = said_ends c.args.keyword c.loop-first.line (lines c.loop-first.left.now) _ (search rules) c.loop-first.invariant.same
