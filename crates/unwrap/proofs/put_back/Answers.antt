use Rattle.std.proofs.Common.{◌≡◌, ap, subst}
use Rattle.phase_field.specs.Field.{Field, turns_in}
use Rattle.phase_cost.specs.Cost.{AllComeBack}
use Rattle.unwrap.specs.Promise.{FindsAgain}
use Rattle.unwrap.specs.declared.Done.TheVariants as done
use Rattle.unwrap.proofs.Promising.{if_none}
use Rattle.unwrap.proofs.put_back.Goals as goal

pub returns-in-None-clause-nothing : goal.returns-in-None-clause-nothing
returns-in-None-clause-nothing c =
    let told = c.unwrap_field.result in
    if_none _ _ (subst (λ (f : Field). AllComeBack f → done.Back told ≡ done.Back 0) c.field.ensures (λ back. ap done.Back (c.unwrap_field.ensures.nothing back)))

pub returns-in-None-clause-found : goal.returns-in-None-clause-found
returns-in-None-clause-found c =
    if_none _ _ (subst (λ (f : Field). FindsAgain f (turns_in f.wide c.unwrap_field.new.room)) c.field.ensures c.unwrap_field.ensures.found)
