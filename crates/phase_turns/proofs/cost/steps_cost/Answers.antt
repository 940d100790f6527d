use Rattle.std.proofs.Common.{◌≡◌, length, rules}
use Rattle.phase_turns.proofs.Costing.{ways_are, below_fits}
use Rattle.phase_turns.proofs.cost.steps_cost.Goals as goal

pub way_cost-requires-2 : goal.way_cost-requires-2
way_cost-requires-2 c =
    let f = c.args.field.now in
    let long : length c.args.steps.now.below ≡ 4096 = search rules in
    let prices : length f.below ≡ 4096 = search rules in
    below_fits f c.args.steps.now.right c.args.steps.now.below c.args.room.now c.requires.below_small long prices (c.room_fits.ensures.0 c.if-not-room_fits.false)

pub returns : goal.returns
returns c =
    let f = c.args.field.now in
    let w = ways_are f c.args.steps.now.right c.args.steps.now.below c.args.room.now in
    let a = c.way_cost.ensures.is in
    let b = c.way_cost-2.ensures.is in
    let t = c.from.ensures in
    (c.room_fits.ensures.0 c.if-not-room_fits.false, cc)
