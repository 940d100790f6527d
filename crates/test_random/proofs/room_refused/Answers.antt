use Rattle.std.proofs.Common.{rules}
use Rattle.test_random.proofs.Refusing.{room_refused}
use Rattle.test_random.proofs.room_refused.Goals as goal

pub returns : goal.returns
returns c =
    let e = c.put_back-done.ensures in
    λ t. room_refused c.args.trial.now _ c.args.long c.put_back-done.result _ (search rules) e.refused e.back (c.left_alone.ensures.0 t).why
