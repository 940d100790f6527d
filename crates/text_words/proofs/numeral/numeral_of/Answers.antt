use Rattle.std.proofs.Common.{arith, rules, true-eqb, false-eqb}
use Rattle.text_words.proofs.Readings.{numeral_none, numeral_more, numeral_stops, numeral_ends}
use Rattle.text_words.proofs.numeral.numeral_of.Goals as goal

pub returns-then-is_empty : goal.returns-then-is_empty
returns-then-is_empty c = numeral_none c.args.word.now (true-eqb _ 0 c.if-is_empty.ensures)

pub returns-in_err-digit : goal.returns-in_err-digit
returns-in_err-digit c =
    let none = numeral_stops c.args.word.now c.loop-b.b-index c.loop-b.n (omega arith) (search rules) c.loop-b.invariant.0 in
    search rules

pub loop-b-preserved : goal.loop-b-preserved
loop-b-preserved c = (numeral_more c.args.word.now c.loop-b.b-index c.loop-b.n c.in_ok-digit.field-0 c.extended-n.result _ (omega arith) (search rules) c.extended-n.ensures c.loop-b.invariant.0, omega (arith, c.extended-n.ensures))

pub returns : goal.returns
returns c = numeral_ends c.args.word.now c.loop-b.b-index c.loop-b.n (omega (arith, false-eqb _ 0 c.if-is_empty.ensures)) (omega arith) c.loop-b.invariant.1 c.loop-b.invariant.0
