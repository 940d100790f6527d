use Rattle.std.proofs.Common.{◌∷◌, ◌++◌, get_or, ℤ, pos, string_bytes, ap, ◌∙◌, rules, w64, SFits}
use Rattle.std.proofs.lemmas.Int.{to_z-of_z}
use Rattle.std.specs.Fmt.{signed_decimal}
use Rattle.print.specs.Rows.{code_of}
use Rattle.print.proofs.Lines.{more_ends, more_step}
use Rattle.print.proofs.rows.push_more.Goals as goal

pub loop-z-preserved : goal.loop-z-preserved
loop-z-preserved c =
    let fits : SFits w64 (get_or c.args.row.now c.loop-z.z-index (pos 0)) = search rules in
    more_step c.args.parting (string_bytes c.loop-z.out) (string_bytes c.push_parted.new.out) _ c.args.row.now c.loop-z.z-index c.loop-z-test.true
    (c.in_ok-push_parted.ensures ∙ ap (λ (z : ℤ). string_bytes c.loop-z.out ++ (code_of c.args.parting ∷ signed_decimal z)) (to_z-of_z w64 (get_or c.args.row.now c.loop-z.z-index (pos 0)) fits)) c.loop-z.invariant

pub returns : goal.returns
returns c = more_ends c.args.parting (string_bytes c.loop-z.out) _ c.args.row.now c.loop-z.z-index c.loop-z-test.false c.loop-z.invariant
