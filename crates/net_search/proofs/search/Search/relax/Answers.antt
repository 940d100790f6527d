use Rattle.std.proofs.Common.{◌≡◌, ◌+◌, ◌⊎◌, ℤ, refl, inl, inr, arith, w64, to_z, of_z}
use Rattle.std.specs.Int.{int_min}
use Rattle.std.proofs.lemmas.Int.{ints}
use Rattle.net_graph.specs.Network.{graph}
use Rattle.net_graph.specs.Sound.{state}
use Rattle.net_graph.proofs.Points.{cases_lt_ℤ, lt_yes, lt_no}
use Rattle.net_search.specs.Tree.{tree}
use Rattle.net_search.proofs.Steps.{level_fits, reduced_small, along, Onward, closed_arc, idle_arc, not_reached, nearer_arc, not_open}
use Rattle.net_search.proofs.search.Search.relax.Goals as goal

-- the lesser of two is one of them
one_of : (b l m : ℤ) → m ≡ int_min b l → (m ≡ b) ⊎ (m ≡ l)
one_of b l m e = elim (cases_lt_ℤ l b) [
  | inl h ↦ inr (rw (lt_yes l b h) at e)
  | inr h ↦ inl (rw (lt_no l b h) at e)
]

pub overflow_add-d : goal.overflow_add-d
overflow_add-d c =
    let net = c.args.flow.now.net in
    omega (
      arith,
      ints,
      c.reduced_cost.ensures,
      level_fits (graph net) net.formed.laws (state c.args.flow.now) c.requires.sound _ c.args.a (tree c.args.self.now) c.requires.searching _ c.requires.hand,
      reduced_small (graph net) net.formed.laws (state c.args.flow.now) c.requires.sound c.args.a c.requires.arc,
    )

pub offset_bounds-self-v : goal.offset_bounds-self-v
offset_bounds-self-v c =
    let net = c.args.flow.now.net in omega (arith, (net.formed.laws.arc c.args.a c.requires.arc).head, net.formed.laws.few_nodes)

pub bounds-self-v : goal.bounds-self-v
bounds-self-v c =
    let net = c.args.flow.now.net in omega (arith, (net.formed.laws.arc c.args.a c.requires.arc).head, c.requires.lengths, c.args.self.now.same_len)

pub returns-then-d-min-clause-searching : goal.returns-then-d-min-clause-searching
returns-then-d-min-clause-searching c =
    let net = c.args.flow.now.net in let t = tree c.args.self.now in
    let is = along (graph net) net.formed.laws (state c.args.flow.now) c.requires.sound _ c.args.a (tree c.args.self.now) (tree c.args.self.now) c.requires.searching c.requires.hand c.requires.arc refl c.reduced_cost.result c.reduced_cost.ensures in
    (idle_arc (graph net) net.formed.laws (state c.args.flow.now) c.requires.sound _ c.args.a (tree c.args.self.now) (tree c.args.self.now) c.requires.searching c.requires.hand c.requires.arc refl _ is
    (elim (one_of (to_z w64 (of_z w64 t.bound)) (to_z w64 (of_z w64 (t.distance ((graph net).head c.args.a)))) c.min.result c.min.ensures.value) [
      | inl e ↦ inl (omega (arith, ints, c.if-d-min.true, e, is))
      | inr e ↦ inr (omega (arith, ints, c.if-d-min.true, e, is))
    ])).searching

pub take-requires-clause-unreached : goal.take-requires-clause-unreached
take-requires-clause-unreached c =
    let net = c.args.flow.now.net in
    let is = along (graph net) net.formed.laws (state c.args.flow.now) c.requires.sound _ c.args.a (tree c.args.self.now) (tree c.args.self.now) c.requires.searching c.requires.hand c.requires.arc refl c.reduced_cost.result c.reduced_cost.ensures in
    not_reached (graph net) net.formed.laws (state c.args.flow.now) c.requires.sound _ c.args.a (tree c.args.self.now) (tree c.args.self.now) c.requires.searching c.requires.hand c.requires.arc refl _ is
    (c.if-open.ensures.0 refl) (record { bound = omega (arith, ints, c.if-d-min.false, is); distance = omega (arith, ints, c.if-d-min.false, is) })

onward : (c : goal.After-take) → Onward (graph c.args.flow.now.net) (state c.args.flow.now) ((graph c.args.flow.now.net).tail c.args.a) (c.args.a + 1) (tree c.args.self.now) (tree c.take.new.self)
onward c =
    let net = c.args.flow.now.net in
    let is = along (graph net) net.formed.laws (state c.args.flow.now) c.requires.sound _ c.args.a (tree c.args.self.now) (tree c.args.self.now) c.requires.searching c.requires.hand c.requires.arc refl c.reduced_cost.result c.reduced_cost.ensures in
    nearer_arc (graph net) net.formed.laws (state c.args.flow.now) c.requires.sound _ c.args.a (tree c.args.self.now) (tree c.take.new.self) c.requires.searching c.requires.hand c.requires.arc refl _ is
    (c.if-open.ensures.0 refl) (record { bound = omega (arith, ints, c.if-d-min.false, is); distance = omega (arith, ints, c.if-d-min.false, is) }) (rw c.requires.lengths at c.take.ensures.taken)

pub returns-then-open-clause-searching : goal.returns-then-open-clause-searching
returns-then-open-clause-searching c = (onward c).searching

pub returns-then-open-clause-hand : goal.returns-then-open-clause-hand
returns-then-open-clause-hand c = (onward c).hand

pub returns-else-open-clause-searching : goal.returns-else-open-clause-searching
returns-else-open-clause-searching c =
    let net = c.args.flow.now.net in
    (closed_arc (graph net) net.formed.laws (state c.args.flow.now) c.requires.sound _ c.args.a (tree c.args.self.now) (tree c.args.self.now) c.requires.searching c.requires.hand c.requires.arc refl
    (not_open _ _ c.if-open.ensures.1)).searching
