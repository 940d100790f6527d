-- What a search promises once it is over: its paths are shortest, as far as the nearest node with a deficit.
use Rattle.std.proofs.Common.{ℕ, ◌<◌, ◌⊎◌, ℤ, pos, ◌≤ℤ◌, subst, inl, inr, arith}
use Rattle.std.proofs.lemmas.Int.{ints}
use Rattle.std.proofs.lemmas.Bool.{cases_lt}
use Rattle.net_graph.specs.Graph.{Graph, IsNetwork}
use Rattle.net_graph.specs.Sound.{State, Sound}
use Rattle.net_search.specs.Tree.{Tree, Relaxed, IsPathTree, IsShortest, OpenPath, here, along, NoShorterPath}
use Rattle.net_search.specs.Inner.{Searching, Ended}

pub is_shortest : (g : Graph) (w : IsNetwork g) (s : State) (t : Tree) → Searching g s g.nodes 0 t → Ended g.nodes t → IsShortest g s t
is_shortest g w s t i ended =
    record {
      relaxed = λ a h p f. i.relaxed a h p (λ e. absurd (omega (arith, e, (w.arc a h).tail))) f;
      reached = λ v h p. omega (arith, ints, i.low v h p, i.capped);
      unreached = ended;
      no_nearer = i.deficits;
      target = i.aims;
    }

module _ (g : Graph) (w : IsNetwork g) (s : State) (o : Sound g s) (t : Tree) (i : IsPathTree g s t) (m : IsShortest g s t) where
  -- a node that a path of length d leads to
  record End (v : ℕ) (d : ℤ) : Type 0 where
    node : v < g.nodes
    long : ((t.place v < t.reached) × (t.distance v ≤ℤ d)) ⊎ (t.bound ≤ℤ d)

  at_label : (v : ℕ) (d : ℤ) → v < g.nodes → t.distance v ≤ℤ d → End v d
  at_label v d h l = record {
    node = h;
    long = elim (cases_lt (t.place v) t.reached) [
      | inl p ↦ inl (p, l)
      | inr p ↦ inr (omega (arith, ints, m.unreached v h p, l))
    ];
  }

  path_long : (v : ℕ) (d : ℤ) → OpenPath g s t.source v d → End v d
  path_long v d here = at_label t.source (pos 0) i.source (omega (arith, ints, i.source_distance))
  path_long v e (along {d = d} a h f p ends sum) = subst (λ (u : ℕ). End u e) ends (elim (path_long (g.tail a) d p).long [
    | inl q ↦ by q (m.relaxed a h q.0 f)
    | inr q ↦ record { node = (w.arc a h).head; long = inr (omega (arith, ints, q, sum, o.priced a h f)) }
  ])
    where
      by : (t.place (g.tail a) < t.reached) × (t.distance (g.tail a) ≤ℤ d) → Relaxed g s t a → End (g.head a) e
      by q (inl r) = at_label (g.head a) e (w.arc a h).head (omega (arith, ints, q.1, r, sum))
      by q (inr r) = record { node = (w.arc a h).head; long = inr (omega (arith, ints, q.1, r, sum)) }

  pub no_shorter_path : NoShorterPath g s t
  no_shorter_path = record {
    reached = λ v d p r. elim (path_long v d p).long [
      | inl q ↦ q.1
      | inr q ↦ omega (arith, ints, q, m.reached v (path_long v d p).node r)
    ];
    deficit = λ v d p e. elim (path_long v d p).long [
      | inl q ↦ omega (arith, ints, q.1, m.no_nearer v (path_long v d p).node e)
      | inr q ↦ q
    ];
  }
