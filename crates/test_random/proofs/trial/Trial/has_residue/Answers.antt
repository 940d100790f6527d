use Rattle.std.proofs.Common.{◌≡◌, Bool, false, Option, Some, None, IfSome, IfNone, inl, inr, rules}
use Rattle.std.specs.Prelude.{nat_lt}
use Rattle.phase_field.specs.Model.{field_of}
use Rattle.phase_field.specs.declared.field.Field.{Field as code}
use Rattle.phase_cost.specs.Steps.{turn_steps}
use Rattle.phase_turns.specs.Residue.{residue_count}
use Rattle.test_random.specs.Drawn.{SaysResidue, Lends, IsRefused}
use Rattle.test_random.specs.declared.trial.Trial.{Trial}
use Rattle.test_random.proofs.trial.Trial.has_residue.Goals as goal

says : (t : Trial) (o : Option code) (r : Bool) → IfSome o (Lends t) → IfNone o (IsRefused t) → IfSome o (λ f. r ≡ nat_lt 0 (residue_count (turn_steps (field_of f)))) → IfNone o (r ≡ false) → SaysResidue t r
says t (Some f) r l n y z = inl (f, l, y)
says t None r l n y z = inr (n, z)

pub returns : goal.returns
returns c =
    let some : IfSome c.field.result (λ f. c.is_some_and.result ≡ nat_lt 0 (residue_count (turn_steps (field_of f)))) = search rules in
    let none : IfNone c.field.result (c.is_some_and.result ≡ false) = search rules in
    says c.args.self.now c.field.result c.is_some_and.result c.field.ensures.some c.field.ensures.none some none
