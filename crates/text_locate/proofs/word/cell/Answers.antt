use Rattle.std.proofs.Common.{◌≡◌, ◌-◌, false, true, nat_lt, ap, rules, arith}
use Rattle.std.proofs.lemmas.Bool.Decides.{nat_tests}
use Rattle.text_words.specs.Pieces.{lines, words}
use Rattle.text_locate.specs.Word.{cells_of}
use Rattle.text_locate.proofs.Finding.{cell_ends, cell_found, cell_more}
use Rattle.text_locate.proofs.word.cell.Goals as goal

pub returns-then-word-cells : goal.returns-then-word-cells
returns-then-word-cells c =
    let few : nat_lt c.loop-first.word (cells_of (words c.in-Some.first.now)) ≡ true = grind (arith, nat_tests, c.if-word-cells.true, c.cells_of-cells.ensures) in
    cell_found c.loop-first.line c.loop-first.word (lines c.loop-first.left.now) (lines c.in-Some.after.now) c.in-Some.first.now _ c.in-Some.ensures.0 few c.loop-first.invariant.same

pub loop-first-preserved : goal.loop-first-preserved
loop-first-preserved c =
    let many : nat_lt c.loop-first.word (cells_of (words c.in-Some.first.now)) ≡ false = grind (arith, nat_tests, c.if-word-cells.false, c.cells_of-cells.ensures) in
    record {
      same = cell_more c.loop-first.line c.loop-first.word _ (lines c.loop-first.left.now) (lines c.in-Some.after.now) c.in-Some.first.now _ c.in-Some.ensures.0 many (ap (◌-◌ c.loop-first.word) c.cells_of-cells.ensures) c.loop-first.invariant.same;
      fits = omega (arith, c.in-Some.ensures.1, c.loop-first.invariant.fits);
    }

pub returns : goal.returns
returns c = cell_ends c.loop-first.line c.loop-first.word (lines c.loop-first.left.now) _ (search rules) c.loop-first.invariant.same
