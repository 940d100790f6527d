-- What is written is what it falls to.
use Rattle.std.proofs.Common.{slice_index, rules, ◌≡◌, ◌≤ℤ◌, ◌<ℤ◌, ◌<◌, length, pos, ℤ, nat_abs, ◌≤◌, ◌^◌, ap₂, w32, to_z, of_z, ap, sym, ◌∙◌, subst, arith}
use Rattle.std.proofs.lemmas.Int.{ints}
use Rattle.net_cells.specs.Lists.{potential_of}
use Rattle.net_cells_search.specs.Marks.{label_of}
use Rattle.net_cells_search.specs.Lower.{FallenAt, lowered}
use Rattle.net_cells_search.proofs.Whole.{whole}
use Rattle.net_cells_search.proofs.lower.lower_one.Goals as goal

pub returns-clause-fallen : goal.returns-clause-fallen
returns-clause-fallen c =
    let bound = to_z w32 (of_z w32 c.args.bound) in
    let same : to_z w32 (of_z w32 c.args.bound) ≡ c.args.bound = search rules in
    let is : to_z w32 (of_z w32 c.fallen-potential.result) ≡ lowered c.args.side (label_of c.args.marks.now c.args.v) bound (potential_of c.args.cells.now c.args.v) =
    whole c.fallen-potential.result c.fallen-potential.type_inv
    ∙ (c.fallen-potential.ensures
    ∙ ap₂ (λ (z p : ℤ). lowered c.args.side z bound p) (whole c.label_at-label.result c.label_at-label.type_inv ∙ c.label_at-label.ensures) (whole c.potential_of.result c.potential_of.type_inv ∙ c.potential_of.ensures)) in
    subst (λ (p : ℤ). FallenAt c.args.cells.now c.set_potential.new.cells c.args.v p)
    (is ∙ ap (λ (b : ℤ). lowered c.args.side (label_of c.args.marks.now c.args.v) b (potential_of c.args.cells.now c.args.v)) same) c.set_potential.ensures
