use Rattle.std.proofs.Common.{ℕ, SomeIff, subst}
use Rattle.phase_field.specs.Field.{turns_in}
use Rattle.phase_field.specs.Model.{field_of}
use Rattle.phase_turns.specs.Cost.{RoomFits}
use Rattle.phase_turns.proofs.Expecting.{cost_expected, right_expected, below_expected}
use Rattle.phase_turns.proofs.cost.cost.Goals as goal

pub steps_cost-requires : goal.steps_cost-requires
steps_cost-requires c =
    let f = field_of c.args.field.now in
    let e = c.args.expected.now in
    record { right_small = right_expected f e.right e.below c.requires; below_small = below_expected f e.right e.below c.requires }

pub returns : goal.returns
returns c =
    let f = field_of c.args.field.now in
    let e = c.args.expected.now in
    subst (λ (n : ℕ). SomeIff c.steps_cost.result (RoomFits f c.args.room.now) n) (cost_expected f e.right e.below (turns_in f.wide c.args.room.now) c.requires) c.steps_cost.ensures
