use Rattle.std.proofs.Common.{refl, arith}
use Rattle.test_random.proofs.Refusing.{all_cost}
use Rattle.test_random.proofs.try_field.Goals as goal

pub returns-clause-costly : goal.returns-clause-costly
returns-clause-costly c =
    let e = c.put_back-done.ensures in
    let a = all_cost c.args.trial.now c.put_back-done.result _ _ _ (omega arith) refl e.refused e.back e.least in
    (λ t. a.0 (c.costs.ensures.0 t), λ h. c.costs.ensures.1 (a.1 h))
