use Rattle.std.proofs.Common.{◌≡◌, ◌*◌, length, ◌∙◌, rules}
use Rattle.phase_field.specs.Model.{field_of}
use Rattle.phase_field.proofs.Told.{some_told, told_some}
use Rattle.brute_force.proofs.Codes.{code_fits, code_cost}
use Rattle.brute_force.proofs.cost_of.Goals as goal

pub unwrap-requires : goal.unwrap-requires
unwrap-requires c =
    let f = c.args.field.now in
    let long : length c.write_turns.new.room ≡ f.wide * f.high = search rules in
    some_told _ c.cost.result _ c.cost.ensures (code_fits (field_of f) c.args.code c.write_turns.new.room long c.write_turns.ensures)

pub returns : goal.returns
returns c =
    let f = c.args.field.now in
    let long : length c.write_turns.new.room ≡ f.wide * f.high = search rules in
    told_some _ c.cost.result c.unwrap.result _ c.unwrap.ensures c.cost.ensures
    ∙ code_cost (field_of f) c.args.code c.write_turns.new.room long c.write_turns.ensures
