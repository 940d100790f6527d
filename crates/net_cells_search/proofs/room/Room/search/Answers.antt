-- What was learnt.
use Rattle.std.proofs.Common.{ℕ, w32, to_z, of_z, ◌≡◌, ◌<ℤ◌, refl, ◌∙◌, length, rules, ◌<◌, subst, ap, sym, arith}
use Rattle.std.proofs.lemmas.Int.{ints}
use Rattle.net_cells.specs.Lists.{view}
use Rattle.net_cells_theory.proofs.Fences.{bounded}
use Rattle.net_cells_search.specs.Room.{Led}
use Rattle.net_cells_search.proofs.Learning.{blank, learnt, led, is_end, kept, finds, some_of, none_of}
use Rattle.net_cells_search.proofs.room.Room.search.Goals as goal

pub find-found-requires-clause-bounded : goal.find-found-requires-clause-bounded
find-found-requires-clause-bounded c = bounded c.args.cells.now c.args.costs.now c.args.side c.requires.fenced c.requires.feasible

pub lower-requires-clause-bounded : goal.lower-requires-clause-bounded
lower-requires-clause-bounded c = bounded c.args.cells.now c.args.costs.now c.args.side c.requires.fenced c.requires.feasible

pub returns-clause-blank : goal.returns-clause-blank
returns-clause-blank c = blank c.args.cells.now c.lower.new.cells c.args.costs.now c.args.side c.find-found.new.self c.lower.new.self.marks.now c.requires.feasible c.find-found.ensures.stopped c.lower.ensures.fallen

pub returns-clause-feasible : goal.returns-clause-feasible
returns-clause-feasible c = learnt c.args.cells.now c.lower.new.cells c.args.costs.now c.args.side c.find-found.new.self c.lower.new.self.marks.now c.requires.feasible c.find-found.ensures.stopped c.lower.ensures.fallen

pub returns-clause-end : goal.returns-clause-end
returns-clause-end c =
    some_of c.find-found.result c.find-found.new.self.target _ _ c.find-found.ensures.target c.find-found.ensures.some
    (λ b. is_end c.args.cells.now c.lower.new.cells c.args.costs.now c.args.side c.find-found.new.self c.lower.new.self.marks.now c.requires.feasible c.find-found.ensures.stopped c.lower.ensures.fallen b)

pub returns-clause-led : goal.returns-clause-led
returns-clause-led c =
    some_of c.find-found.result c.find-found.new.self.target _ _ c.find-found.ensures.target c.find-found.ensures.some
    (λ b. subst (λ (s : ℕ). Led (view c.lower.new.cells c.args.costs.now c.args.side) c.lower.new.self.marks.now s c.find-found.new.self.target) c.find-found.ensures.is_source
    (led c.args.cells.now c.lower.new.cells c.args.costs.now c.args.side c.find-found.new.self c.lower.new.self.marks.now c.requires.feasible c.find-found.ensures.stopped c.lower.ensures.fallen b))

pub returns-clause-everywhere : goal.returns-clause-everywhere
returns-clause-everywhere c =
    none_of c.find-found.result _ _ c.find-found.ensures.none
    (λ b e. absurd (omega (arith, ints, c.find-found.ensures.is_within, e, finds c.args.cells.now c.args.costs.now c.args.side c.find-found.new.self c.requires.fenced c.requires.feasible c.find-found.ensures.stopped (c.find-found.ensures.is_within ∙ (search rules ∙ e)))))
