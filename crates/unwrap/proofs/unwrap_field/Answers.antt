use Rattle.phase_field.specs.Field.{turns_in}
use Rattle.phase_field.specs.Model.{field_of}
use Rattle.unwrap.proofs.Fitting.{field_fit}
use Rattle.unwrap.proofs.Promising.{costs_none, finds}
use Rattle.unwrap.proofs.unwrap_field.Goals as goal

pub returns-clause-nothing : goal.returns-clause-nothing
returns-clause-nothing c =
    let f = c.args.field.now in
    costs_none (field_of f) (turns_in f.wide c.write_least.new.room) c.write_least.result (field_fit f) c.write_least.ensures.least c.write_least.ensures.cost

pub returns-clause-found : goal.returns-clause-found
returns-clause-found c =
    let f = c.args.field.now in
    finds (field_of f) (turns_in f.wide c.write_least.new.room) (field_fit f) c.write_least.ensures.least
