use Rattle.std.proofs.Common.{◌≡◌, sym, ◌∙◌, rules, arith, drop}
use Rattle.text_words.specs.Pieces.{parts}
use Rattle.text_words.specs.declared.pieces.Mark.TheVariants.{Blank}
use Rattle.text_locate.proofs.Finding.{column_ends, column_found, column_started, column_inside, column_blank}
use Rattle.text_locate.proofs.column.column_of.Goals.{then-not-blank+then-not-inside+else-left-eq0, else-not-blank, else-not-blank-via-then-not-blank+else-not-inside, else-not-blank-via-else-not-blank}
use Rattle.text_locate.proofs.column.column_of.Goals as goal

pub returns-then-left-eq0 : goal.returns-then-left-eq0
returns-then-left-eq0 c =
    let blank : c.parts-blank.result ≡ parts Blank (drop c.loop-column.column c.args.line.now) = search rules in
    column_found c.args.line.now c.loop-column.column c.loop-column.left c.loop-column.inside _ c.loop-column-test.true (sym blank ∙ c.if-not-blank.true) c.if-not-inside.true c.if-left-eq0.true c.loop-column.invariant

pub loop-column-preserved : goal.loop-column-preserved
loop-column-preserved c =
    let blank : c.parts-blank.result ≡ parts Blank (drop c.loop-column.column c.args.line.now) = search rules in
    elim c.if-not-blank.branch [
      | then-not-blank+then-not-inside+else-left-eq0 w ↦
          column_started c.args.line.now c.loop-column.column c.loop-column.left c.if-not-blank.left c.loop-column.inside c.parts-blank.result _ c.loop-column-test.true w.if-not-blank.true blank w.if-not-inside.true
          w.if-left-eq0.false w.left-is c.loop-column.invariant
      | else-not-blank w ↦ elim w.else-not-blank.branch [
        | else-not-blank-via-then-not-blank+else-not-inside v ↦
            column_inside c.args.line.now c.loop-column.column c.loop-column.left c.if-not-blank.left c.loop-column.inside c.parts-blank.result _ c.loop-column-test.true v.if-not-blank.true blank v.if-not-inside.false
            w.left-is c.loop-column.invariant
        | else-not-blank-via-else-not-blank v ↦
            column_blank c.args.line.now c.loop-column.column c.loop-column.left c.if-not-blank.left c.loop-column.inside c.parts-blank.result _ c.loop-column-test.true v.if-not-blank.false blank
            w.left-is c.loop-column.invariant
      ]
    ]

pub returns : goal.returns
returns c = column_ends c.args.line.now c.loop-column.column c.loop-column.left c.loop-column.inside _ (omega arith) c.loop-column.invariant
