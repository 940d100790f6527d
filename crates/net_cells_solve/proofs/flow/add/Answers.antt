-- By the way.
use Rattle.std.proofs.Common.{◌≡◌, ℕ, sym, subst, arith}
use Rattle.std.proofs.lemmas.Int.{ints}
use Rattle.net_cells.specs.Lists.{number}
use Rattle.net_cells.specs.declared.way.Way.{Way}
use Rattle.net_cells_theory.specs.Slots.{Added}
use Rattle.net_cells_theory.proofs.Slots.{added_right, added_left, added_up, added_down}
use Rattle.net_cells_solve.proofs.flow.add.Goals as goal

pub returns-in-Right : goal.returns-in-Right
returns-in-Right c =
    subst (λ (w : Way). Added c.args.flows.now c.add_right.new.flows c.args.stride c.args.u (number w) c.args.z) (sym c.in-Right.is)
    (added_right c.args.flows.now c.add_right.new.flows c.args.stride c.args.u c.args.z c.requires.some c.requires.low (omega (arith, ints, c.add_right.ensures.here)) c.add_right.ensures.kept c.add_right.ensures.up)

pub returns-in-Left : goal.returns-in-Left
returns-in-Left c =
    subst (λ (w : Way). Added c.args.flows.now c.add_right-in-Left.new.flows c.args.stride c.args.u (number w) c.args.z) (sym c.in-Left.is)
    (added_left c.args.flows.now c.add_right-in-Left.new.flows c.args.stride c.args.u c.args.z c.requires.some c.requires.low (omega (arith, ints, c.add_right-in-Left.ensures.here)) c.add_right-in-Left.ensures.kept c.add_right-in-Left.ensures.up)

pub returns-in-Up : goal.returns-in-Up
returns-in-Up c =
    subst (λ (w : Way). Added c.args.flows.now c.add_up.new.flows c.args.stride c.args.u (number w) c.args.z) (sym c.in-Up.is)
    (added_up c.args.flows.now c.add_up.new.flows c.args.stride c.args.u c.args.z c.requires.some c.requires.low (omega (arith, ints, c.add_up.ensures.here)) c.add_up.ensures.kept c.add_up.ensures.right)

pub returns-in-Down : goal.returns-in-Down
returns-in-Down c =
    subst (λ (w : Way). Added c.args.flows.now c.add_up-in-Down.new.flows c.args.stride c.args.u (number w) c.args.z) (sym c.in-Down.is)
    (added_down c.args.flows.now c.add_up-in-Down.new.flows c.args.stride c.args.u c.args.z c.requires.some c.requires.low (omega (arith, ints, c.add_up-in-Down.ensures.here)) c.add_up-in-Down.ensures.kept c.add_up-in-Down.ensures.right)
