-- From a search that is over to the next state.
use Rattle.std.proofs.Common.{◌≡◌, ℕ, ◌+◌, ◌%◌, ◌^◌, ◌<◌, ◌≤◌, ◌⊎◌, ℤ, pos, ◌-ℤ◌, neg_ℤ, nat_abs, ◌≤ℤ◌, ◌<ℤ◌, refl, ◌∙◌, inl, inr, arith, List, length, true, false, Option, Some, None, SomeIff, is_none}
use Rattle.std.proofs.Math.Path.{fun_ext}
use Rattle.std.proofs.lemmas.Int.{ints}
use Rattle.std.proofs.lemmas.Bool.{cases_lt}
use borrow.Author.Differences.{up}
use Rattle.sums.proofs.Sum.{sum_zero}
use Rattle.net_graph.specs.Graph.{Graph, IsNetwork}
use Rattle.net_graph.specs.Network.{graph}
use Rattle.net_graph.specs.Node.{excess_of, potential_of}
use Rattle.net_graph.specs.Sound.{State, state, Sound, total_excess, Later}
use Rattle.net_graph.specs.declared.flow.Flow.{Flow}
use Rattle.net_graph.specs.declared.node.Node.{Node}
use Rattle.net_graph.proofs.Points.{cases_lt_ℤ}
use Rattle.net_search.specs.Label.{infinity}
use Rattle.net_search.specs.Tree.{Tree, tree, IsPathTree, HasTarget, IsShortest}
use Rattle.net_search.specs.Path.{Lowered, IsShortestPath, Walking, Cut}
use Rattle.net_search.specs.declared.search.Search.{Search}
use Rattle.net_search.proofs.Potentials.{lowered_sound, lowered_found}
use Rattle.net_search.proofs.Steps.{label_fits}
use Rattle.net_search.proofs.PathPush.{up_none, excess_small, walked_sound, walked_later, walked_quiet, fewer}
use Rattle.net_solve.specs.Promise.{IsPlacedCut}

-- something has gone from a node in excess to a deficit
pub record Augmented (g : Graph) (s s' : State) : Type 0 where
  pub sound : Sound g s'
  pub later : Later g s s'
  pub less : total_excess g s' < total_excess g s
  pub quiet : (v : ℕ) → v < g.nodes → s.excess v ≤ℤ pos 0 → s'.excess v ≤ℤ pos 0

-- potentials that are the same at each node
repriced : (g : Graph) → IsNetwork g → (x e p q : ℕ → ℤ) → Sound g (record { flow = x; excess = e; potential = p }) → ((v : ℕ) → q v ≡ p v) → Sound g (record { flow = x; excess = e; potential = q })
unfolding total_excess
repriced g w x e p q o h =
    record {
      flows = o.flows;
      priced = λ a l f. omega (arith, ints, o.priced a l f, h (g.tail a), h (g.head a));
      deficit = λ v l m. h v ∙ o.deficit v l m;
      bounded = λ v l. rw (h v) (o.bounded v l);
      even = o.even;
      few = o.few;
    }

-- s was there, p are the lowered potentials, s' is what the push leaves
sent : (g : Graph) (w : IsNetwork g) (s : State) (p : ℕ → ℤ) (o : Sound g (record { flow = s.flow; excess = s.excess; potential = p })) (t : Tree) (f : IsShortestPath g (record { flow = s.flow; excess = s.excess; potential = p }) t) (d : ℤ) → pos 0 <ℤ d → d ≤ℤ s.excess t.source → d ≤ℤ neg_ℤ (s.excess t.target) → (s' : State) → ((v : ℕ) → s'.potential v ≡ p v) → Walking g (record { flow = s.flow; excess = s.excess; potential = p }) s' t t.source d → Augmented g s s'
unfolding total_excess
sent g w s p o t f d more enough wanted s' same k =
    record {
      sound = repriced g w s'.flow s'.excess p s'.potential (walked_sound g w S o t f d more S' K refl enough wanted) same;
      later = record { supplies = (walked_later g w S o t f d more S' K refl enough wanted).supplies; moved = (walked_later g w S o t f d more S' K refl enough wanted).moved; leaves = (walked_later g w S o t f d more S' K refl enough wanted).leaves; comes = (walked_later g w S o t f d more S' K refl enough wanted).comes };
      less = less' (total_excess g S') (total_excess g S) (fewer g w S o t f d more S' K refl enough wanted);
      quiet = walked_quiet g w S o t f d more S' K refl enough wanted;
    }
  where
    S : State
    S = record { flow = s.flow; excess = s.excess; potential = p }

    S' : State
    S' = record { flow = s'.flow; excess = s'.excess; potential = p }

    K : Walking g S S' t t.source d
    K = record { node = k.node; on = k.on; chain = k.chain; flows = k.flows; priced = k.priced; untouched = k.untouched; moved = k.moved; leaves = k.leaves; leaves_before = k.leaves_before; comes = k.comes; comes_before = k.comes_before; excess = k.excess; supplies = k.supplies }

    less' : (m n : ℕ) → pos m ≡ (pos n -ℤ d) → m < n
    less' m n e = omega (arith, ints)

-- the same where the excesses are written anew
pub augmented : (g : Graph) (w : IsNetwork g) (s : State) (e p : ℕ → ℤ) → s.excess ≡ e → (o : Sound g (record { flow = s.flow; excess = e; potential = p })) (t : Tree) (f : IsShortestPath g (record { flow = s.flow; excess = e; potential = p }) t) (d : ℤ) → pos 0 <ℤ d → d ≤ℤ e t.source → d ≤ℤ neg_ℤ (e t.target) → (s' : State) → ((v : ℕ) → s'.potential v ≡ p v) → Walking g (record { flow = s.flow; excess = e; potential = p }) s' t t.source d → Augmented g s s'
unfolding total_excess
augmented g w s e p q o t f d more enough wanted s' same k =
    record { sound = A.sound; later = record { supplies = rw q A.later.supplies; moved = rw q A.later.moved; leaves = rw q A.later.leaves; comes = rw q A.later.comes }; less = rw q A.less; quiet = rw q A.quiet }
  where
    A : Augmented g (record { flow = s.flow; excess = e; potential = s.potential }) s'
    A = sent g w (record { flow = s.flow; excess = e; potential = s.potential }) p o t f d more enough wanted s' same k

pub none_found : (b m : ℤ) (v : ℕ) (r : Option ℕ) → SomeIff r (b <ℤ m) v → is_none r ≡ true → m ≤ℤ b
none_found b m v None h e = elim (cases_lt_ℤ b m) [ inl l ↦ absurd (h l) | inr l ↦ l ]
none_found b m v (Some x) h e = cc

pub some_found : {P : Type 0} (v : ℕ) (r : Option ℕ) → SomeIff r P v → is_none r ≡ false → P
some_found v None h e = cc
some_found v (Some x) h e = h.0

-- a state from which units can go along the path found
pub record Ready (g : Graph) (s : State) (t : Tree) : Type 0 where
  pub sound : Sound g s
  pub found : IsShortestPath g s t

-- such is what lower potentials leave
pub ready : (f : Flow) (q : Search) (nodes : List Node) → Sound (graph f.net) (state f) → IsPathTree (graph f.net) (state f) (tree q) → IsShortest (graph f.net) (state f) (tree q) → (r : ℤ) → q.radius ≡ r → r ≤ℤ infinity → q.bound <ℤ r
    → Lowered (length f.nodes.now) (tree q) (potential_of f.nodes.now) (potential_of nodes) → ((v : ℕ) → excess_of nodes v ≡ excess_of f.nodes.now v)
    → Ready (graph f.net) (record { flow = (state f).flow; excess = excess_of nodes; potential = potential_of nodes }) (tree q)
ready f q nodes o i m r radius most found low same =
    record {
      sound = lowered_sound (graph f.net) f.net.formed.laws (state f) o (tree q) i m (omega (arith, ints, radius, most)) (omega (arith, ints, radius, found)) _ refl (fun_ext same) (rw f.nodes_len at low);
      found = lowered_found (graph f.net) f.net.formed.laws (state f) o (tree q) i m (omega (arith, ints, radius, most)) (omega (arith, ints, radius, found)) _ refl (fun_ext same) (rw f.nodes_len at low);
    }

pub bound_fits : (g : Graph) (w : IsNetwork g) (s : State) (o : Sound g s) (t : Tree) (i : IsPathTree g s t) (m : IsShortest g s t) → (r : ℤ) → t.radius ≡ r → r ≤ℤ infinity → t.bound <ℤ r → nat_abs t.bound ≤ 2 ^ 60 + 2 ^ 58
bound_fits g w s o t i m r radius most h = omega (arith, ints, A.distance, label_fits g w s o t i t.target A.node (omega (arith, ints, A.distance, h, most)))
  where
    A : HasTarget g s t
    A = m.target (omega (arith, ints, radius, h))

-- of the numbers with the same rest the next one is STRIDE farther
pub next_like : (v k : ℕ) → v < k + 31 → v % 31 ≡ k % 31 → (v < k) ⊎ (v ≡ k)
next_like v k l e = elim (cases_lt v k) [ inl h ↦ inl h | inr h ↦ inr (omega (arith, l, e, h)) ]

nothing_left : (g : Graph) (s : State) → ((v : ℕ) → v < g.nodes → s.excess v ≤ℤ pos 0) → total_excess g s ≡ 0
unfolding total_excess
nothing_left g s h = sum_zero g.nodes (λ v. up (s.excess v)) (λ v l. up_none (s.excess v) (h v l))

-- where nothing is in excess, there is no deficit
pub all_even : (g : Graph) (s : State) → Sound g s → ((v : ℕ) → v < g.nodes → s.excess v ≤ℤ pos 0) → (v : ℕ) → v < g.nodes → s.excess v ≡ pos 0
all_even g s o h v l = omega (arith, ints, excess_small g s o v l, none)
  where
    none : total_excess g s ≡ 0
    none = nothing_left g s h

pub placed_cut : (g : Graph) (s : State) (t : Tree) → Cut g s t → IsPlacedCut g s t.place t.reached
placed_cut g s t c = record { closed = c.closed; no_deficit = c.no_deficit; some = (t.source, c.source, c.inside, c.excess) }
