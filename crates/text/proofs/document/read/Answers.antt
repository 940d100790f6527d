use Rattle.std.proofs.Common.{◌≡◌, ◌∷◌, ◌∙◌, ◌+◌, ◌≤◌, ap, length, arith, rules, inl}
use Rattle.std.proofs.lemmas.Result.{err_from_is_err_and}
use Rattle.text_words.specs.Pieces.{lines, unmarked}
use Rattle.text_words.specs.declared.pieces.Mark.TheVariants.{Newline}
use Rattle.text_words.proofs.Cuts.{length_pieces, length_unmarked}
use Rattle.text.specs.Draft.{notes}
use Rattle.text.specs.Document.{contents}
use Rattle.text.proofs.Reader.{read_ends, told_stops, told_more}
use Rattle.text.proofs.document.read.Goals as goal

pub loop-number-init : goal.loop-number-init
loop-number-init c =
    let start : c.into_iter-number-iterator.result.count ≡ 0 = search rules in
    let whole : c.into_iter-number-iterator.result.iter.0.now ≡ unmarked c.args.text.now = search rules in
    let all : length (lines c.into_iter-number-iterator.result.iter.0.now) ≤ length (unmarked c.args.text.now) = rw whole (length_pieces Newline (unmarked c.args.text.now)) in
    let short = length_unmarked c.args.text.now in
    record {
      can = (tt, tt, inl (omega arith));
      ends = search rules;
      fits = omega arith;
      read = search rules;
    }

pub returns-in_err-map_err : goal.returns-in_err-map_err
returns-in_err-map_err c =
    let line : c.in-Some.number ≡ c.loop-number.number-iterator.count = search rules in
    let first : lines c.loop-number.number-iterator.iter.0.now ≡ c.in-Some.line.now ∷ lines c.next.new.self.iter.0.now = search rules in
    let told = err_from_is_err_and c.from_residual.result c.from_residual.ensures.1 in
    rw (told.1, told.2) (told_stops c.in-Some.number (notes c.loop-number.draft) _ (lines c.next.new.self.iter.0.now) c.in-Some.line.now _ c.take_line.new.self c.take_line.result c.map_err.result c.in_err-map_err.field-0.0 first c.take_line.ensures c.map_err.ensures.cases c.in_err-map_err.was (rw line c.loop-number.invariant.read))

pub loop-number-preserved : goal.loop-number-preserved
loop-number-preserved c =
    let line : c.in-Some.number ≡ c.loop-number.number-iterator.count = search rules in
    let first : lines c.loop-number.number-iterator.iter.0.now ≡ c.in-Some.line.now ∷ lines c.next.new.self.iter.0.now = search rules in
    let more : c.next.new.self.count ≡ c.loop-number.number-iterator.count + 1 = search rules in
    let fits : c.next.new.self.count + length (lines c.next.new.self.iter.0.now) ≤ length c.args.text.now = omega (arith, ap length first, c.loop-number.invariant.fits) in
    record {
      can = (tt, tt, inl (omega arith));
      ends = search rules;
      fits = fits;
      read = rw (more, ← line) (told_more c.in-Some.number (notes c.loop-number.draft) _ (lines c.next.new.self.iter.0.now) c.in-Some.line.now c.take_line.new.self c.take_line.result c.map_err.result c.in_ok-map_err.field-0 first c.take_line.ensures c.map_err.ensures.cases c.in_ok-map_err.was ∙ rw line c.loop-number.invariant.read);
    }

pub returns : goal.returns
returns c =
    read_ends c.loop-number.number-iterator.count (notes c.loop-number.draft) (lines c.loop-number.number-iterator.iter.0.now) _ (contents c.in_ok-finished.field-0) (search rules) c.loop-number.invariant.read
    c.in_ok-finished.ensures
