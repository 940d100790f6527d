-- What a push along a tight arc and new potentials that were checked leave: a sound state with the same supplies.
use Rattle.std.proofs.Common.{◌≡◌, ℕ, ◌<◌, ◌≤◌, ℤ, pos, negsuc, ◌+ℤ◌, ◌-ℤ◌, neg_ℤ, ◌≤ℤ◌, ◌<ℤ◌, refl, ap, ◌∙◌, inl, inr, arith}
use borrow.Author.Differences.{up}
use Rattle.std.proofs.lemmas.Int.{ints}
use Rattle.std.proofs.lemmas.Bool.{cases_eq}
use Rattle.sums.specs.Sum.{sum_ℤ}
use Rattle.sums.proofs.Sum.{sum_ext, sum_ℤ_ext, sum_ℤ_le, sum_ℤ_add, sum_ℤ_neg, sum_ℤ_pos}
use Rattle.sums.proofs.Points.{point_sum}
use Rattle.net_graph.specs.Graph.{Graph, at, IsNetwork, residual_capacity, reduced_cost}
use Rattle.net_graph.specs.Network.{graph}
use Rattle.net_graph.specs.Sound.{State, Sound, supply, total_excess, Pushed, state}
use Rattle.net_graph.specs.declared.flow.Flow.{Flow}
use Rattle.net_graph.specs.declared.network.Network.{Network}
use Rattle.net_graph.proofs.Points.{at_same, at_other}
use Rattle.net_graph.proofs.Push.{pushed_flow, pushed_priced, pushed_outflow}
use Rattle.net_search.proofs.PathPush.{up_some}
use Rattle.net_solve.specs.Promise.{SameFlow}
use Rattle.net_waves.specs.Promise.{SameSupplies, Kept}
use Rattle.net_waves.specs.Potentials.{FitsNodes, FitsArcs}

pub kept_none : (f : Flow) → Sound (graph f.net) (state f) → Kept f f
kept_none f o = record { same = record { net = refl; flow = refl; nodes = refl }; sound = o; supplies = λ v h. refl }

-- supplies are told by the network alone
same_in : (m n : Network) → m ≡ n → (s t : State) → SameSupplies (graph m) s t → SameSupplies (graph n) s t
same_in m n e s t h = rw e at h

sound_in : (m n : Network) → m ≡ n → (s : State) → Sound (graph m) s → Sound (graph n) s
sound_in m n e s h = rw e at h

pub kept_more : (f g h : Flow) → Kept f g → Kept g h → Kept f h
kept_more f g h a b =
    record {
      same = record { net = b.same.net ∙ a.same.net; flow = b.same.flow ∙ a.same.flow; nodes = b.same.nodes ∙ a.same.nodes };
      sound = sound_in g.net f.net a.same.net (state h) b.sound;
      supplies = λ v l. same_in g.net f.net a.same.net (state g) (state h) b.supplies v l ∙ a.supplies v l;
    }

-- ---- a push

up_more : (z y d : ℤ) → y ≡ (z +ℤ d) → pos 0 ≤ℤ d → pos (up y) ≤ℤ (pos (up z) +ℤ d)
up_more (pos n) (pos m) d e h = omega (arith, ints)
up_more (pos n) (negsuc m) d e h = omega (arith, ints)
up_more (negsuc n) (pos m) d e h = omega (arith, ints)
up_more (negsuc n) (negsuc m) d e h = omega (arith, ints)

module _ (g : Graph) (w : IsNetwork g) (s t : State) (o : Sound g s) (a : ℕ) (l : a < g.arcs) (d : ℤ) (some : pos 0 <ℤ d) (enough : d ≤ℤ s.excess (g.tail a)) (fits : d ≤ℤ residual_capacity g s.flow a) (tight : reduced_cost g s.flow s.potential a ≡ pos 0) (p : Pushed g s t a d) where
  least : pos 0 ≤ℤ d
  least = omega (arith, ints, some)

  part : (k v : ℕ) → pos 0 ≤ℤ at k d v
  part k v = elim (cases_eq v k) [
    | inl e ↦ omega (arith, ints, at_same k v d e, least)
    | inr n ↦ omega (arith, ints, at_other k v d n)
  ]

  deficit : (v : ℕ) → v < g.nodes → t.excess v <ℤ pos 0 → t.potential v ≡ pos 0
  deficit v h m = elim (cases_eq v (g.tail a)) [
    | inl e ↦ absurd (omega (arith, ints, p.excess v, at_same (g.tail a) v d e, part (g.head a) v, ap s.excess e, enough, m))
    | inr n ↦ p.potential v ∙ o.deficit v h (omega (arith, ints, p.excess v, at_other (g.tail a) v d n, part (g.head a) v, m))
  ]

  term : (v : ℕ) → v < g.nodes → pos (up (t.excess v)) ≤ℤ ((pos (up (s.excess v)) +ℤ neg_ℤ (at (g.tail a) d v)) +ℤ at (g.head a) d v)
  term v h = elim (cases_eq v (g.tail a)) [
    | inl e ↦ omega (arith, ints, up_more (s.excess v -ℤ d) (t.excess v) (at (g.head a) d v) (omega (arith, ints, p.excess v, at_same (g.tail a) v d e)) (part (g.head a) v), up_some (s.excess v -ℤ d) (omega (arith, ints, ap s.excess e, enough)), up_some (s.excess v) (omega (arith, ints, ap s.excess e, enough, least)), at_same (g.tail a) v d e)
    | inr n ↦ omega (arith, ints, up_more (s.excess v) (t.excess v) (at (g.head a) d v) (omega (arith, ints, p.excess v, at_other (g.tail a) v d n)) (part (g.head a) v), at_other (g.tail a) v d n)
  ]

  -- a sum with so much less at the tail and so much more at the head
  shifted : (f : ℕ → ℤ) → sum_ℤ g.nodes (λ v. (f v +ℤ neg_ℤ (at (g.tail a) d v)) +ℤ at (g.head a) d v) ≡ sum_ℤ g.nodes f
  shifted f =
      omega (arith, ints, sum_ℤ_add g.nodes (λ v. f v +ℤ neg_ℤ (at (g.tail a) d v)) (at (g.head a) d), sum_ℤ_add g.nodes f (λ v. neg_ℤ (at (g.tail a) d v)), sum_ℤ_neg g.nodes (at (g.tail a) d), point_sum g.nodes (g.tail a) d (w.arc a l).tail, point_sum g.nodes (g.head a) d (w.arc a l).head)

  fewer : total_excess g t ≤ total_excess g s
  unfolding total_excess
  fewer =
      omega (arith, ints, sum_ℤ_le g.nodes (λ v. pos (up (t.excess v))) (λ v. (pos (up (s.excess v)) +ℤ neg_ℤ (at (g.tail a) d v)) +ℤ at (g.head a) d v) term, shifted (λ v. pos (up (s.excess v))), sum_ℤ_pos g.nodes (λ v. up (t.excess v)), sum_ℤ_pos g.nodes (λ v. up (s.excess v)))

  pub pushed_sound : Sound g t
  pushed_sound =
      record {
        flows = pushed_flow g w s.flow t.flow a l d p.flow o.flows least fits;
        priced = λ b h f. omega (arith, ints, pushed_priced g w s.flow t.flow a l d p.flow o.flows least fits s.potential some o.priced tight b h f, p.potential (g.tail b), p.potential (g.head b));
        deficit = deficit;
        bounded = λ v h. rw (p.potential v) (o.bounded v h);
        even = sum_ℤ_ext g.nodes t.excess (λ v. (s.excess v +ℤ neg_ℤ (at (g.tail a) d v)) +ℤ at (g.head a) d v) (λ v h. omega (arith, ints, p.excess v)) ∙ (shifted s.excess ∙ o.even);
        few = omega (arith, fewer, o.few);
      }

  pub pushed_supplies : (v : ℕ) → v < g.nodes → supply g t v ≡ supply g s v
  pushed_supplies v h = omega (arith, ints, p.excess v, pushed_outflow g w s.flow t.flow a l d p.flow v)

-- ---- new potentials

module _ (g : Graph) (s t : State) (o : Sound g s) (flow : t.flow ≡ s.flow) (excess : (v : ℕ) → t.excess v ≡ s.excess v) (p : ℕ → ℤ) (potential : (v : ℕ) → v < g.nodes → t.potential v ≡ p v) (w : IsNetwork g) (nodes : FitsNodes g.nodes s p) (arcs : FitsArcs g s p) where
  pub repriced_sound : Sound g t
  unfolding total_excess
  repriced_sound =
      record {
        flows = rw flow o.flows;
        priced = rw flow (λ a h f. omega (arith, ints, arcs a h f, potential (g.tail a) (w.arc a h).tail, potential (g.head a) (w.arc a h).head));
        deficit = λ v h m. potential v h ∙ (nodes v h).deficit (omega (arith, ints, excess v, m));
        bounded = λ v h. rw (potential v h) (nodes v h).bounded;
        even = sum_ℤ_ext g.nodes t.excess s.excess (λ v h. excess v) ∙ o.even;
        few = rw (sum_ext g.nodes (λ v. up (t.excess v)) (λ v. up (s.excess v)) (λ v h. ap up (excess v))) o.few;
      }

  pub repriced_supplies : (v : ℕ) → v < g.nodes → supply g t v ≡ supply g s v
  repriced_supplies v h = rw flow (omega (arith, ints, excess v))

-- ---- the same of flows on slices

pub kept_push :
    (f f' : Flow) → Sound (graph f.net) (state f) → (a : ℕ) → a < (graph f.net).arcs → (d : ℤ) → pos 0 <ℤ d → d ≤ℤ (state f).excess ((graph f.net).tail a) →
    d ≤ℤ residual_capacity (graph f.net) (state f).flow a → reduced_cost (graph f.net) (state f).flow (state f).potential a ≡ pos 0 →
    SameFlow f f' → Pushed (graph f.net) (state f) (state f') a d → Kept f f'
kept_push f f' o a l d some enough fits tight same p =
    record {
      same = same;
      sound = pushed_sound (graph f.net) f.net.formed.laws (state f) (state f') o a l d some enough fits tight p;
      supplies = pushed_supplies (graph f.net) f.net.formed.laws (state f) (state f') o a l d some enough fits tight p;
    }

pub kept_potentials :
    (f f' : Flow) → Sound (graph f.net) (state f) → SameFlow f f' → (state f').flow ≡ (state f).flow → ((v : ℕ) → (state f').excess v ≡ (state f).excess v) →
    (p : ℕ → ℤ) → ((v : ℕ) → v < (graph f.net).nodes → (state f').potential v ≡ p v) → FitsNodes (graph f.net).nodes (state f) p → FitsArcs (graph f.net) (state f) p → Kept f f'
kept_potentials f f' o same flow excess p potential nodes arcs =
    record {
      same = same;
      sound = repriced_sound (graph f.net) (state f) (state f') o flow excess p potential f.net.formed.laws nodes arcs;
      supplies = repriced_supplies (graph f.net) (state f) (state f') o flow excess p potential f.net.formed.laws nodes arcs;
    }
