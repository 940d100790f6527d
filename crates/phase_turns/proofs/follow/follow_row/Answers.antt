use Rattle.std.proofs.Common.{◌≡◌, length, ℤ, refl, subst, arith, w64}
use Rattle.std.proofs.lemmas.Int.{ints, to_z-of_z}
use Rattle.phase_turns.specs.Follow.{Follows}
use Rattle.phase_turns.proofs.Following.{follow_none, follow_more, follow_all, follows_within}
use Rattle.phase_turns.proofs.follow.follow_row.Goals as goal

pub loop-x-init : goal.loop-x-init
loop-x-init c = follow_none _ c.args.steps.now c.args.row.now (omega (arith, ints, c.requires.start_bound))

pub loop-x-preserved : goal.loop-x-preserved
loop-x-preserved c =
    follow_more _ c.args.steps.now c.loop-x.row c.loop-x.x _ _ _ c.loop-x.invariant (omega (arith, c.loop-x.auto.row)) (omega (arith, c.requires.row_len_bound)) c.requires.steps_few refl
    (omega (arith, ints, c.requires.steps_few c.loop-x.x, c.requires.row_len_bound, c.loop-x.invariant.small))

pub returns-clause-is : goal.returns-clause-is
returns-clause-is c =
    let e : c.loop-x.x ≡ length c.loop-x.row = omega (arith, c.loop-x.auto.row) in
    subst (λ (s : ℤ). Follows s c.args.steps.now c.loop-x.row) (to_z-of_z w64 c.args.start c.ranges.start) (follow_all _ c.args.steps.now c.loop-x.row _ _ e c.loop-x.invariant)

pub returns-clause-small : goal.returns-clause-small
returns-clause-small c =
    let e : c.loop-x.x ≡ length c.loop-x.row = omega (arith, c.loop-x.auto.row) in
    follows_within c.args.start c.args.steps.now c.loop-x.row
    (subst (λ (s : ℤ). Follows s c.args.steps.now c.loop-x.row) (to_z-of_z w64 c.args.start c.ranges.start) (follow_all _ c.args.steps.now c.loop-x.row _ _ e c.loop-x.invariant))
