-- The bottleneck of the path found.
use Rattle.std.proofs.Common.{◌≡◌, ℕ, ◌<◌, ◌⊎◌, ℤ, pos, neg_ℤ, ◌≤ℤ◌, ◌<ℤ◌, ◌≢◌, refl, ◌∙◌, inl, inr, arith}
use Rattle.std.proofs.lemmas.Int.{ints}
use Rattle.std.proofs.lemmas.Bool.{cases_eq}
use Rattle.net_graph.specs.Graph.{Graph, at, IsNetwork, residual_capacity}
use Rattle.net_graph.specs.Sound.{State}
use Rattle.net_graph.proofs.Points.{at_same, at_other, residual_open}
use Rattle.net_search.specs.Tree.{Tree}
use Rattle.net_search.specs.Path.{OnPath, Step, IsShortestPath, IsPredecessor}
use Rattle.net_search.proofs.PathPush.{chain_split}

-- `least` goes along the part of the path found that node v begins
pub record IsBottleneck (g : Graph) (s : State) (t : Tree) (v : ℕ) (least : ℤ) : Type 0 where
  pub node : v < g.nodes
  pub on : OnPath t v
  pub some : pos 0 <ℤ least
  pub enough : least ≤ℤ s.excess t.source
  pub wanted : least ≤ℤ neg_ℤ (s.excess t.target)
  pub arcs : (u : ℕ) → IsPredecessor g t t.target u → (u ≢ t.source) → (least ≤ℤ residual_capacity g s.flow (t.pred u)) ⊎ IsPredecessor g t v u

-- what is at one place is between nothing and all
pub at_most : (k i : ℕ) (z : ℤ) → pos 0 <ℤ z → (pos 0 ≤ℤ at k z i) × (at k z i ≤ℤ z)
at_most k i z h = elim (cases_eq i k) [
  | inl e ↦ (omega (arith, ints, at_same k i z e), omega (arith, ints, at_same k i z e))
  | inr n ↦ (omega (arith, ints, at_other k i z n), omega (arith, ints, at_other k i z n))
]

module _ (g : Graph) (w : IsNetwork g) (s : State) (t : Tree) (f : IsShortestPath g s t) where
  pub least_begins : (m : ℤ) → pos 0 <ℤ s.excess t.source → m ≤ℤ s.excess t.source → m ≤ℤ neg_ℤ (s.excess t.target) → (m ≡ s.excess t.source) ⊎ (m ≡ neg_ℤ (s.excess t.target)) → IsBottleneck g s t t.target m
  least_begins m h a b c = record { node = f.target; on = inr refl; some = some c; enough = a; wanted = b; arcs = λ u k n. inr k }
    where
      some : (m ≡ s.excess t.source) ⊎ (m ≡ neg_ℤ (s.excess t.target)) → pos 0 <ℤ m
      some (inl e) = omega (arith, ints, e)
      some (inr e) = omega (arith, ints, e, f.deficit)

  module _ (v : ℕ) (m : ℤ) (l : IsBottleneck g s t v m) where
    pub least_step : (v ≡ t.source → ⊥) → Step g s t v
    least_step n = f.step v l.node l.on n

    pub least_on : (n : v ≡ t.source → ⊥) (m' : ℤ) → m' ≤ℤ m → m' ≤ℤ residual_capacity g s.flow (t.pred v) → (m' ≡ m) ⊎ (m' ≡ residual_capacity g s.flow (t.pred v)) → IsBottleneck g s t (g.tail (t.pred v)) m'
    least_on n m' a b c =
        record {
          node = (w.arc (t.pred v) (least_step n).arc).tail;
          on = inl (least_step n).from;
          some = some c;
          enough = omega (arith, ints, a, l.enough);
          wanted = omega (arith, ints, a, l.wanted);
          arcs = λ u k x. further u (l.arcs u k x);
        }
      where
        some : (m' ≡ m) ⊎ (m' ≡ residual_capacity g s.flow (t.pred v)) → pos 0 <ℤ m'
        some (inl e) = omega (arith, ints, e, l.some)
        some (inr e) = omega (arith, ints, e, residual_open g s.flow (t.pred v) (least_step n).takes)

        further : (u : ℕ) → (m ≤ℤ residual_capacity g s.flow (t.pred u)) ⊎ IsPredecessor g t v u → (m' ≤ℤ residual_capacity g s.flow (t.pred u)) ⊎ IsPredecessor g t (g.tail (t.pred v)) u
        further u (inl x) = inl (omega (arith, ints, x, a))
        further u (inr k) = elim (chain_split g t v u k) [
          | inl e ↦ inl (rw e b)
          | inr q ↦ inr q.1
        ]

  -- at the source every arc of the path is counted
  pub least_all : (v : ℕ) (m : ℤ) → IsBottleneck g s t v m → v ≡ t.source → (u : ℕ) → IsPredecessor g t t.target u → (u ≡ t.source → ⊥) → m ≤ℤ residual_capacity g s.flow (t.pred u)
  least_all v m l e u k n = by (l.arcs u k n)
    where
      by : (m ≤ℤ residual_capacity g s.flow (t.pred u)) ⊎ IsPredecessor g t v u → m ≤ℤ residual_capacity g s.flow (t.pred u)
      by (inl x) = x
      by (inr c) = elim (chain_split g t v u c) [ inl x ↦ absurd (n (x ∙ e)) | inr q ↦ absurd (q.0 e) ]
