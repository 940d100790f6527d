-- One way of the cell in hand more is passed.
use Rattle.std.proofs.Common.{rules, ◌≡◌, ℕ, suc, ◌+◌, ◌<◌, ◌≤◌, ◌^◌, length, ℤ, pos, ◌+ℤ◌, ◌-ℤ◌, ◌≤ℤ◌, ◌<ℤ◌, ◌⊎◌, nat_abs, ap, sym, ◌∙◌, subst, w32, to_z, of_z, add-one, refl, arith}
use Rattle.std.proofs.lemmas.Int.{ints}
use Rattle.net_cells.specs.Net.{reduced}
use Rattle.net_cells.specs.Lists.{view, head, inner_of, potential_in, cost_in, number}
use Rattle.net_cells_theory.proofs.Fences.{number_less, head_within, potential_fits}
use Rattle.net_cells_search.specs.Marks.{far, label_of, IsLower}
use Rattle.net_cells_search.specs.Room.{Going}
use Rattle.net_cells_search.proofs.Relaxing.{passed, took_at, falls_at, own}
use Rattle.net_cells_search.proofs.room.Room.relax.Goals as goal

pub cost-requires-clause-head : goal.cost-requires-clause-head
cost-requires-clause-head c =
    omega (arith, c.head-v.ensures, head_within c.args.cells.now c.args.costs.now c.args.side c.args.u (number c.args.way) c.requires.fenced c.requires.inner, c.requires.fenced.priced)

pub potential_at-requires-clause-cell : goal.potential_at-requires-clause-cell
potential_at-requires-clause-cell c =
    omega (arith, c.head-v.ensures, head_within c.args.cells.now c.args.costs.now c.args.side c.args.u (number c.args.way) c.requires.fenced c.requires.inner)

pub reach-r-requires-clause-base : goal.reach-r-requires-clause-base
reach-r-requires-clause-base c =
    omega (arith, ints, c.requires.base, c.requires.going.searching.least c.args.u, c.requires.going.tidy.top c.args.u, potential_fits c.args.cells.now c.args.side c.args.u c.requires.bounded)

pub reach-r-requires-clause-there : goal.reach-r-requires-clause-there
reach-r-requires-clause-there c =
    omega (arith, ints, c.potential_at.ensures, potential_fits c.args.cells.now c.args.side c.head-v.result c.requires.bounded)

pub lowers-requires : goal.lowers-requires
lowers-requires c =
    omega (arith, c.head-v.ensures, c.requires.room.marks, head_within c.args.cells.now c.args.costs.now c.args.side c.args.u (number c.args.way) c.requires.fenced c.requires.inner)

pub take-requires-clause-cell : goal.take-requires-clause-cell
take-requires-clause-cell c =
    omega (arith, c.head-v.ensures, head_within c.args.cells.now c.args.costs.now c.args.side c.args.u (number c.args.way) c.requires.fenced c.requires.inner)

pub returns-then-lowers-clause-base : goal.returns-then-lowers-clause-base
returns-then-lowers-clause-base c =
    c.take.ensures.taken.label_kept c.args.u (λ e. c.requires.feasible.paired.apart c.args.u (number c.args.way) c.requires.inner (number_less c.args.way) (sym (e ∙ c.head-v.ensures)))

pub returns-then-lowers-clause-going : goal.returns-then-lowers-clause-going
returns-then-lowers-clause-going c =
    rw (add-one (number c.args.way))
    (took_at c.args.cells.now c.args.costs.now c.args.side c.args.u (number c.args.way) c.head-v.result (to_z w32 (of_z w32 c.reach-r.result)) c.args.self.now c.take.new.self c.requires.feasible c.requires.inner (number_less c.args.way)
    (omega (arith, ints, c.reach-r.ensures, c.reach-r.type_inv, c.cost.ensures, c.cost.type_inv, c.potential_at.ensures, c.potential_at.type_inv, c.requires.base, ap (potential_in c.args.cells.now c.args.side) c.head-v.ensures))
    c.head-v.ensures (search rules) c.take.ensures.taken (search rules) c.requires.room c.take.ensures.room
    (omega (arith, c.head-v.ensures, head_within c.args.cells.now c.args.costs.now c.args.side c.args.u (number c.args.way) c.requires.fenced c.requires.inner)) c.requires.going)

pub returns-then-lowers-clause-effort : goal.returns-then-lowers-clause-effort
returns-then-lowers-clause-effort c =
    omega (
      arith,
      falls_at c.args.cells.now c.args.costs.now c.args.side c.args.u (number c.args.way) c.head-v.result (to_z w32 (of_z w32 c.reach-r.result)) c.args.self.now c.take.new.self c.requires.feasible c.requires.inner (number_less c.args.way)
          (omega (arith, ints, c.reach-r.ensures, c.reach-r.type_inv, c.cost.ensures, c.cost.type_inv, c.potential_at.ensures, c.potential_at.type_inv, c.requires.base, ap (potential_in c.args.cells.now c.args.side) c.head-v.ensures))
          c.head-v.ensures (search rules) c.take.ensures.taken (search rules) c.requires.room c.take.ensures.room
          (omega (arith, c.head-v.ensures, head_within c.args.cells.now c.args.costs.now c.args.side c.args.u (number c.args.way) c.requires.fenced c.requires.inner)) c.requires.going,
    )

pub returns-else-lowers-clause-going : goal.returns-else-lowers-clause-going
returns-else-lowers-clause-going c =
    rw (add-one (number c.args.way))
    (passed (view c.args.cells.now c.args.costs.now c.args.side) c.args.u (number c.args.way) c.args.self.now (to_z w32 (of_z w32 c.reach-r.result))
    (omega (arith, ints, c.reach-r.ensures, c.reach-r.type_inv, c.cost.ensures, c.cost.type_inv, c.potential_at.ensures, c.potential_at.type_inv, c.requires.base, ap (potential_in c.args.cells.now c.args.side) c.head-v.ensures))
    (subst (λ (v : ℕ). (label_of c.args.self.now.marks.now v ≤ℤ to_z w32 (of_z w32 c.reach-r.result)) ⊎ (c.args.self.now.bound ≤ℤ to_z w32 (of_z w32 c.reach-r.result))) c.head-v.ensures (c.if-lowers.ensures.no refl)) c.requires.going)
