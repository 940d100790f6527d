use Rattle.std.proofs.Common.{vec_items, ◌∙◌, sym, rules}
use Rattle.std.proofs.lemmas.Result.{err_from_is_err_and}
use Rattle.text_words.specs.Pieces.{words}
use Rattle.text.proofs.Rows.{row_ends, row_stops, row_more}
use Rattle.text.proofs.section.push_row.Goals as goal

pub returns-in_err-number_of-clause-flawed : goal.returns-in_err-number_of-clause-flawed
returns-in_err-number_of-clause-flawed c =
    let told = err_from_is_err_and c.from_residual.result c.from_residual.ensures.1 in
    rw (told.1, told.2) (row_stops (vec_items c.loop-word.numbers) (words c.loop-word.word-iterator.0.now) (words c.next.new.self.0.now) c.in-Some.word.now c.in_err-number_of.field-0.0 _
    c.in-Some.ensures.steps (sym c.number_of.ensures ∙ c.in_err-number_of.was) c.loop-word.invariant.read)

pub loop-word-preserved : goal.loop-word-preserved
loop-word-preserved c = record {
  can = search rules;
  ends = search rules;
  read = row_more (vec_items c.loop-word.numbers) (vec_items c.push_number.new.numbers) (words c.loop-word.word-iterator.0.now) (words c.next.new.self.0.now) c.in-Some.word.now c.in_ok-number_of.field-0
      c.in-Some.ensures.steps (sym c.number_of.ensures ∙ c.in_ok-number_of.was) c.in_ok-push_number.ensures
      ∙ c.loop-word.invariant.read;
}

pub returns-clause-ok : goal.returns-clause-ok
returns-clause-ok c = row_ends (vec_items c.loop-word.numbers) (words c.loop-word.word-iterator.0.now) _ c.in-None.ensures.steps.0 c.loop-word.invariant.read
