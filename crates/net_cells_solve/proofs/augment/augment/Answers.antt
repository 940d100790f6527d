-- What was learnt, and what was sent.
use Rattle.std.proofs.Common.{◌≡◌, ℕ, ◌<◌, ◌≤◌, ◌^◌, true, length, ℤ, pos, ◌<ℤ◌, nat_abs, ap, sym, ◌∙◌, subst, rules, refl, w64, to_z, of_z, arith}
use Rattle.std.proofs.lemmas.Int.{ints}
use Rattle.net_cells.specs.Lists.{inner_of, excess_in}
use Rattle.net_cells.specs.Fenced.{Fenced}
use Rattle.net_cells.specs.Sound.{Sound, Later}
use Rattle.net_cells_search.specs.Room.{Kept}
use Rattle.net_cells_solve.specs.Walk.{TakesTo}
use Rattle.net_cells_solve.proofs.Whole.{whole}
use Rattle.net_cells_solve.proofs.Walking.{leads, sendable}
use Rattle.net_cells_solve.proofs.Sending.{few_in, few_of}
use Rattle.net_cells_solve.proofs.Searches.{kept_in, kept_left, kept_fence, kept_sound, kept_later, later_more, small_flow, small_flow_in, lacking}
use Rattle.net_cells_solve.proofs.augment.augment.Goals as goal

pub most-amount-requires-clause-small : goal.most-amount-requires-clause-small
most-amount-requires-clause-small c =
    let w : Sound c.search.new.cells c.args.flows.now c.args.costs.now c.args.side = (kept_sound c.args.cells.now c.search.new.cells c.args.flows.now c.args.costs.now c.args.side (search rules) c.search.ensures.kept c.search.ensures.feasible c.requires.sound) in
    omega (arith, few_of c.search.new.cells c.args.flows.now c.args.costs.now c.args.side c.args.source w (search rules) (c.search.ensures.kept.inner c.args.source ∙ c.requires.inner))

pub most-amount-requires-clause-small_target : goal.most-amount-requires-clause-small_target
most-amount-requires-clause-small_target c =
    let w : Sound c.search.new.cells c.args.flows.now c.args.costs.now c.args.side = (kept_sound c.args.cells.now c.search.new.cells c.args.flows.now c.args.costs.now c.args.side (search rules) c.search.ensures.kept c.search.ensures.feasible c.requires.sound) in
    λ i. omega (arith, few_of c.search.new.cells c.args.flows.now c.args.costs.now c.args.side c.in-Some.target w c.in-Some.ensures.cell i)

pub most-amount-requires-clause-small_in : goal.most-amount-requires-clause-small_in
most-amount-requires-clause-small_in c =
    let w : Sound c.search.new.cells c.args.flows.now c.args.costs.now c.args.side = (kept_sound c.args.cells.now c.search.new.cells c.args.flows.now c.args.costs.now c.args.side (search rules) c.search.ensures.kept c.search.ensures.feasible c.requires.sound) in
    λ i. omega (arith, few_in c.search.new.cells c.args.flows.now c.args.costs.now c.args.side c.in-Some.target w c.in-Some.ensures.cell i)

pub most-amount-requires-clause-small_flow : goal.most-amount-requires-clause-small_flow
most-amount-requires-clause-small_flow c =
    let w : Sound c.search.new.cells c.args.flows.now c.args.costs.now c.args.side = (kept_sound c.args.cells.now c.search.new.cells c.args.flows.now c.args.costs.now c.args.side (search rules) c.search.ensures.kept c.search.ensures.feasible c.requires.sound) in
    λ u d i l. small_flow c.search.new.cells c.args.flows.now c.args.costs.now c.args.side u d w i l

pub most-amount-requires-clause-small_flow_in : goal.most-amount-requires-clause-small_flow_in
most-amount-requires-clause-small_flow_in c =
    let w : Sound c.search.new.cells c.args.flows.now c.args.costs.now c.args.side = (kept_sound c.args.cells.now c.search.new.cells c.args.flows.now c.args.costs.now c.args.side (search rules) c.search.ensures.kept c.search.ensures.feasible c.requires.sound) in
    λ u d i l. small_flow_in c.search.new.cells c.args.flows.now c.args.costs.now c.args.side u d w i l

pub most-amount-requires-clause-excess : goal.most-amount-requires-clause-excess
most-amount-requires-clause-excess c =
    omega (arith, ints, kept_in c.args.cells.now c.search.new.cells c.args.side c.args.source c.search.ensures.kept, c.requires.excess)

pub most-amount-requires-clause-lacks : goal.most-amount-requires-clause-lacks
most-amount-requires-clause-lacks c =
    λ i. lacking c.search.new.cells c.args.costs.now c.args.side c.in-Some.target c.in-Some.ensures.end i

pub most-amount-requires-clause-leads : goal.most-amount-requires-clause-leads
most-amount-requires-clause-leads c =
    leads c.search.new.cells c.args.costs.now c.args.side c.search.new.self.marks.now c.args.source c.in-Some.target c.in-Some.ensures.led

pub send-requires-clause-fenced : goal.send-requires-clause-fenced
send-requires-clause-fenced c =
    kept_fence c.args.cells.now c.search.new.cells c.args.flows.now c.args.costs.now c.args.side (search rules) c.search.ensures.kept c.requires.fenced

pub send-requires-clause-sound : goal.send-requires-clause-sound
send-requires-clause-sound c =
    kept_sound c.args.cells.now c.search.new.cells c.args.flows.now c.args.costs.now c.args.side (search rules) c.search.ensures.kept c.search.ensures.feasible c.requires.sound

pub send-requires-clause-sendable : goal.send-requires-clause-sendable
send-requires-clause-sendable c =
    sendable c.search.new.cells c.args.flows.now c.args.costs.now c.args.side c.search.new.self.marks.now c.args.source c.in-Some.target (to_z w64 (of_z w64 c.most-amount.result)) c.in-Some.ensures.led
    (subst (λ (a : ℤ). TakesTo c.search.new.cells c.args.flows.now c.args.side c.search.new.self.marks.now c.args.source a c.in-Some.target) (sym (whole c.most-amount.result c.most-amount.type_inv)) c.most-amount.ensures.takes)

pub send-requires-clause-small_target : goal.send-requires-clause-small_target
send-requires-clause-small_target c =
    let w : Sound c.search.new.cells c.args.flows.now c.args.costs.now c.args.side = (kept_sound c.args.cells.now c.search.new.cells c.args.flows.now c.args.costs.now c.args.side (search rules) c.search.ensures.kept c.search.ensures.feasible c.requires.sound) in
    λ i. omega (arith, few_of c.search.new.cells c.args.flows.now c.args.costs.now c.args.side c.in-Some.target w c.in-Some.ensures.cell i)

pub returns-in-Some-clause-later : goal.returns-in-Some-clause-later
returns-in-Some-clause-later c =
    later_more c.args.cells.now c.search.new.cells c.send.new.cells c.args.flows.now c.args.flows.now c.send.new.flows c.args.costs.now c.args.costs.now c.send.new.costs c.args.side (kept_later c.args.cells.now c.search.new.cells c.args.flows.now c.args.costs.now c.args.side (search rules) c.search.ensures.kept) c.send.ensures.later

pub returns-in-Some-clause-less : goal.returns-in-Some-clause-less
returns-in-Some-clause-less c =
    λ _. omega (arith, c.send.ensures.less, kept_left c.args.cells.now c.search.new.cells c.args.flows.now c.args.costs.now c.args.side (search rules) c.search.ensures.kept)

pub returns-in-None-clause-fenced : goal.returns-in-None-clause-fenced
returns-in-None-clause-fenced c =
    kept_fence c.args.cells.now c.search.new.cells c.args.flows.now c.args.costs.now c.args.side (search rules) c.search.ensures.kept c.requires.fenced

pub returns-in-None-clause-sound : goal.returns-in-None-clause-sound
returns-in-None-clause-sound c =
    kept_sound c.args.cells.now c.search.new.cells c.args.flows.now c.args.costs.now c.args.side (search rules) c.search.ensures.kept c.search.ensures.feasible c.requires.sound

pub returns-in-None-clause-later : goal.returns-in-None-clause-later
returns-in-None-clause-later c =
    kept_later c.args.cells.now c.search.new.cells c.args.flows.now c.args.costs.now c.args.side (search rules) c.search.ensures.kept
