use Rattle.std.proofs.Common.{sym, subst}
use Rattle.unwrap.specs.declared.Done.{Done}
use Rattle.test_random.specs.Agreed.{Agreed}
use Rattle.test_random.proofs.back_agrees.Goals as goal

pub returns-in-Back-Some : goal.returns-in-Back-Some
returns-in-Back-Some c =
    λ t. subst (λ (d : Done). Agreed c.args.trial.now d c.args.turns.now) (sym c.in-Back-Some.is-0) (c.in-Back-Some.field, c.in-Back-Some.ensures.some, c.agrees.ensures.0 t)
