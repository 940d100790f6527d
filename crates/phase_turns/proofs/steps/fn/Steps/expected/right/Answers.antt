use Rattle.std.proofs.Common.{◌≡◌, pos, unwrap_or, ◌∙◌, arith, to_z, of_z, w64}
use Rattle.std.proofs.lemmas.Int.{ints}
use Rattle.phase_field.specs.Model.{field_of, HasRight, turns_right_from}
use Rattle.phase_field.proofs.Near.{wrap_count_small}
use Rattle.phase_field.proofs.Told.{told_or, or_told}
use Rattle.phase_turns.proofs.Filling.{value_small}
use Rattle.phase_turns.proofs.steps.fn.Steps.expected.right.Goals as goal

pub returns : goal.returns
returns c =
    let f = field_of c.captures.field.now in
    let small = value_small (HasRight f c.args.place) c.turns_right.result (turns_right_from f c.args.place) c.turns_right.ensures (wrap_count_small f.turn _) in
    let same : to_z w64 (of_z w64 c.unwrap_or.result) ≡ unwrap_or c.turns_right.result (pos 0) = omega (arith, ints, c.unwrap_or.ensures, small) in
    record {
      is = λ h. same ∙ told_or (HasRight f c.args.place) c.turns_right.result (turns_right_from f c.args.place) (pos 0) c.turns_right.ensures h;
      none = λ h. same ∙ or_told (HasRight f c.args.place) c.turns_right.result (turns_right_from f c.args.place) (pos 0) c.turns_right.ensures h;
      small = omega (arith, ints, same, small);
    }
