-- Sums over the arcs of a network that was built from edges are sums over the edges.
use Rattle.std.proofs.Common.{◌≡◌, ℕ, ◌<◌, Bool, true, false, cond, eqb, ◌⊎◌, ℤ, pos, ◌+ℤ◌, neg_ℤ, sym, refl, subst, ap, ◌∙◌, ap₂, inl, inr, arith}
use Rattle.std.proofs.lemmas.Int.{ints}
use Rattle.std.proofs.lemmas.Bool.{eq-eqb, ne_eqb, cond-true, cond-false}
use Rattle.sums.specs.Sum.{sum_ℤ}
use Rattle.sums.proofs.Sum.{sum_ℤ_ext, sum_ℤ_add, sum_ℤ_neg, sum_ℤ_swap, sum_ℤ_spike}
use Rattle.sums.proofs.Points.{point_sum_at, sum_by, sum_paired}
use Rattle.net_graph.specs.Graph.{Graph, IsNetwork, IsPseudoflow, outflow}
use Rattle.net_build.specs.Edges.{Edges, Represents, taken, ArcsAreEdges}

pub here : (a b : ℕ) (z : ℤ) → a ≡ b → cond (eqb a b) z (pos 0) ≡ z
here a b z e = cond-true (eqb a b) z (pos 0) (eq-eqb a b e)

pub elsewhere : (a b : ℕ) (z : ℤ) → (a ≡ b → ⊥) → cond (eqb a b) z (pos 0) ≡ pos 0
elsewhere a b z n = cond-false (eqb a b) z (pos 0) (ne_eqb a b n)

one_left : (a b z : ℤ) → a ≡ z → b ≡ pos 0 → a +ℤ b ≡ z
one_left a b z p q = omega (arith, ints)

one_right : (a b z : ℤ) → a ≡ pos 0 → b ≡ z → a +ℤ b ≡ z
one_right a b z p q = omega (arith, ints)

-- pairs of arcs are the two directions of an edge
abbrev pub Paired : Graph → Type 0
Paired g = (a : ℕ) → a < g.arcs → (g.pair a < g.arcs) × (g.pair (g.pair a) ≡ a)

module _ (es : Edges) (g : Graph) (arc : ℕ → ℕ) (b : Represents es g arc) (w : Paired g) where
  -- each arc belongs to one edge
  once : (f : ℕ → ℤ) (a : ℕ) → a < g.arcs →
      f a ≡ sum_ℤ es.count (λ e. cond (eqb (arc e) a) (f a) (pos 0) +ℤ cond (eqb (g.pair (arc e)) a) (f a) (pos 0))
  once f a l = by (b.edge a l).0 (b.edge a l).1 (b.edge a l).2
    where
      by : (e : ℕ) → e < es.count → (arc e ≡ a) ⊎ (g.pair (arc e) ≡ a) →
          f a ≡ sum_ℤ es.count (λ e. cond (eqb (arc e) a) (f a) (pos 0) +ℤ cond (eqb (g.pair (arc e)) a) (f a) (pos 0))
      by e k (inl p) =
          sym (sum_ℤ_spike es.count e (λ e. cond (eqb (arc e) a) (f a) (pos 0) +ℤ cond (eqb (g.pair (arc e)) a) (f a) (pos 0)) k
          (λ i m n. one_left _ _ (pos 0) (elsewhere (arc i) a (f a) (λ q. n (b.single i e m k (q ∙ sym p)))) (elsewhere (g.pair (arc i)) a (f a) (λ q. b.apart e i k m (p ∙ sym q))))
          ∙ one_left _ _ (f a) (here (arc e) a (f a) p) (elsewhere (g.pair (arc e)) a (f a) (λ q. b.apart e e k k (p ∙ sym q))))
      by e k (inr p) =
          sym (sum_ℤ_spike es.count e (λ e. cond (eqb (arc e) a) (f a) (pos 0) +ℤ cond (eqb (g.pair (arc e)) a) (f a) (pos 0)) k
          (λ i m n. one_left _ _ (pos 0) (elsewhere (arc i) a (f a) (λ q. b.apart i e m k (q ∙ sym p))) (elsewhere (g.pair (arc i)) a (f a) (λ q. n (b.single i e m k (unpair i e m k (q ∙ sym p))))))
          ∙ one_right _ _ (f a) (elsewhere (arc e) a (f a) (λ q. b.apart e e k k (q ∙ sym p))) (here (g.pair (arc e)) a (f a) p))
        where
          unpair : (i e : ℕ) → i < es.count → e < es.count → g.pair (arc i) ≡ g.pair (arc e) → arc i ≡ arc e
          unpair i e m k q = sym (w (arc i) (b.within i m)).1 ∙ (ap g.pair q ∙ (w (arc e) (b.within e k)).1)

  pub arcs_sum : (f : ℕ → ℤ) → sum_ℤ g.arcs f ≡ sum_ℤ es.count (λ e. f (arc e) +ℤ f (g.pair (arc e)))
  arcs_sum f =
      sum_ℤ_ext g.arcs f (λ a. sum_ℤ es.count (λ e. cond (eqb (arc e) a) (f a) (pos 0) +ℤ cond (eqb (g.pair (arc e)) a) (f a) (pos 0))) (once f)
      ∙ sum_ℤ_swap g.arcs es.count (λ a e. cond (eqb (arc e) a) (f a) (pos 0) +ℤ cond (eqb (g.pair (arc e)) a) (f a) (pos 0))
      ∙ sum_ℤ_ext es.count (λ e. sum_ℤ g.arcs (λ a. cond (eqb (arc e) a) (f a) (pos 0) +ℤ cond (eqb (g.pair (arc e)) a) (f a) (pos 0))) (λ e. f (arc e) +ℤ f (g.pair (arc e)))
      (λ e l. sum_ℤ_add g.arcs (λ a. cond (eqb (arc e) a) (f a) (pos 0)) (λ a. cond (eqb (g.pair (arc e)) a) (f a) (pos 0))
      ∙ ap₂ (λ (i j : ℤ). i +ℤ j) (point_sum_at g.arcs (arc e) f (b.within e l)) (point_sum_at g.arcs (g.pair (arc e)) f (w (arc e) (b.within e l)).0))

pub paired : (g : Graph) → IsNetwork g → Paired g
paired g w a l = ((w.arc a l).pair, (w.arc a l).back)

module _ (es : Edges) (g : Graph) (arc : ℕ → ℕ) (b : Represents es g arc) (w : IsNetwork g) where
  pub outflow_edges : (x : ℕ → ℤ) → IsPseudoflow g x → (v : ℕ) → outflow g x v ≡ sum_ℤ es.count (λ e. taken es v e (x (arc e)))
  unfolding outflow
  outflow_edges x flows v =
      arcs_sum es g arc b (paired g w) (λ a. cond (eqb (g.tail a) v) (x a) (pos 0))
      ∙ sum_ℤ_ext es.count (λ e. cond (eqb (g.tail (arc e)) v) (x (arc e)) (pos 0) +ℤ cond (eqb (g.tail (g.pair (arc e))) v) (x (g.pair (arc e))) (pos 0)) (λ e. taken es v e (x (arc e)))
      (λ e l. ap₂ (λ (i j : ℤ). i +ℤ j) (ap (λ (t : ℕ). cond (eqb t v) (x (arc e)) (pos 0)) (b.tail e l)) (ap₂ (λ (t : ℕ) (z : ℤ). cond (eqb t v) z (pos 0)) ((w.arc (arc e) (b.within e l)).turned ∙ b.head e l) (flows.opposite (arc e) (b.within e l)) ∙ turned (es.to e) (x (arc e))))
    where
      turned : (t : ℕ) (z : ℤ) → cond (eqb t v) (neg_ℤ z) (pos 0) ≡ neg_ℤ (cond (eqb t v) z (pos 0))
      turned t z = by (eqb t v)
        where
          by : (c : Bool) → cond c (neg_ℤ z) (pos 0) ≡ neg_ℤ (cond c z (pos 0))
          by true = refl
          by false = refl

-- what holds of the two arcs of each edge holds of every arc
pub each_arc : (es : Edges) (g : Graph) (arc : ℕ → ℕ) → Represents es g arc → (P : ℕ → Type 0) → ((e : ℕ) → e < es.count → P (arc e)) → ((e : ℕ) → e < es.count → P (g.pair (arc e))) → (a : ℕ) → a < g.arcs → P a
each_arc es g arc b P along against a l = by (b.edge a l).0 (b.edge a l).1 (b.edge a l).2
  where
    by : (e : ℕ) → e < es.count → (arc e ≡ a) ⊎ (g.pair (arc e) ≡ a) → P a
    by e h (inl q) = subst P q (along e h)
    by e h (inr q) = subst P q (against e h)

pub arcs_are_edges : ArcsAreEdges
arcs_are_edges es g arc b w = (arcs_sum es g arc b (paired g w), outflow_edges es g arc b w)

-- what leaves the nodes of any network adds up to nothing
pub flow_even : (g : Graph) → IsNetwork g → (x : ℕ → ℤ) → IsPseudoflow g x → sum_ℤ g.nodes (outflow g x) ≡ pos 0
unfolding outflow
flow_even g w x flows =
    sum_by g.arcs g.nodes g.tail (λ a v. x a) (λ a l. (w.arc a l).tail)
    ∙ half (sum_ℤ g.arcs x) (sym (sum_paired g.arcs g.pair x (λ a l. (w.arc a l).pair) (λ a l. (w.arc a l).back)) ∙ (sum_ℤ_ext g.arcs (λ a. x (g.pair a)) (λ a. neg_ℤ (x a)) flows.opposite ∙ sum_ℤ_neg g.arcs x))
  where
    half : (z : ℤ) → z ≡ neg_ℤ z → z ≡ pos 0
    half z e = omega (arith, ints)
