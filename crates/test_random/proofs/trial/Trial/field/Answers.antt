use Rattle.std.proofs.Common.{Option, IfNone, sym, subst}
use Rattle.phase_field.specs.declared.field.Field.{Field as code}
use Rattle.test_random.specs.Drawn.{IsRefused}
use Rattle.test_random.proofs.Refusing.{same_input, none_refused}
use Rattle.test_random.proofs.trial.Trial.field.Goals as goal

pub returns-clause-none : goal.returns-clause-none
returns-clause-none c =
    let e = c.lent.ensures in
    let i = same_input _ _ _ _ _ _ _ _ _ _ _ _ c.args.self.now.places e.wide e.high e.turn e.seen e.right e.below in
    subst (λ (o : Option code). IfNone o (IsRefused c.args.self.now)) (sym c.ok.ensures.value) (none_refused c.take.result _ _ i c.take.ensures.refused)
