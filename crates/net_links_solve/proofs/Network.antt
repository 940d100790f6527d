-- The network of a list of links.
use Rattle.std.proofs.Common.{◌≡◌, ℕ, ◌<◌, List, length, ℤ, ◌+ℤ◌, neg_ℤ, sym, ap, ap₂, ◌∙◌, arith}
use Rattle.std.proofs.lemmas.Int.{ints}
use Rattle.sums.proofs.Sum.{sum_ℤ_ext}
use Rattle.net_graph.specs.Graph.{Graph}
use Rattle.net_theory.proofs.Edge.{up_some}
use Rattle.net_build.specs.Edges.{Edges, Represents}
use Rattle.net_build.specs.Grouped.{gain, FitEdges}
use Rattle.net_build.specs.Lists.{edges_of}
use Rattle.net_build.specs.declared.edge.Edge.{Edge}
use Rattle.net_links_flow.specs.Network.{FitLinks, links_edges}
use Rattle.net_links_flow.proofs.Fit.{links_fit}
use Rattle.net_links_solve.specs.Link.{links_of, AreLinks}

module _ (es : List Edge) (links : AreLinks es) where
  abbrev l : Edges
  l = links_edges (links_of es)

  limit_is : (i : ℕ) → i < length es → l.limit i ≡ (edges_of es).limit i
  limit_is i h = up_some ((edges_of es).limit i) (links i h).allowed

  reverse_limit_is : (i : ℕ) → i < length es → l.reverse_limit i ≡ (edges_of es).reverse_limit i
  reverse_limit_is i h = limit_is i h ∙ sym (links i h).alike

  back_is : (i : ℕ) → l.reverse_cost i ≡ (edges_of es).reverse_cost i
  back_is i = twice ((edges_of es).reverse_cost i)
    where
      twice : (z : ℤ) → neg_ℤ (neg_ℤ z) ≡ z
      twice z = omega (arith, ints)

  pub fit_edges : (n : ℕ) → FitLinks (links_of es) n → FitEdges (edges_of es) n
  fit_edges n fit =
      let f = links_fit (links_of es) n fit in
      record {
        few_nodes = f.few_nodes;
        few_edges = f.few_edges;
        between = f.between;
        cheap = f.cheap;
        reverse_cheap = λ i h. omega (arith, ints, f.reverse_cheap i h, back_is i);
        allowed = λ i h. omega (arith, ints, f.allowed i h, limit_is i h);
        reverse_allowed = λ i h. omega (arith, ints, f.reverse_allowed i h, reverse_limit_is i h);
        limited = λ i h. omega (arith, ints, f.limited i h, limit_is i h);
        reverse_limited = λ i h. omega (arith, ints, f.reverse_limited i h, reverse_limit_is i h);
        convex = λ i h. omega (arith, ints, f.convex i h, back_is i);
        gained = omega (arith, ints, f.gained, sum_ℤ_ext (length es) (λ i. gain (l.cost i) (l.limit i) +ℤ gain (l.reverse_cost i) (l.reverse_limit i)) (λ i. gain ((edges_of es).cost i) ((edges_of es).limit i) +ℤ gain ((edges_of es).reverse_cost i) ((edges_of es).reverse_limit i)) same);
      }
    where
      same : (i : ℕ) → i < length es → gain (l.cost i) (l.limit i) +ℤ gain (l.reverse_cost i) (l.reverse_limit i) ≡ gain ((edges_of es).cost i) ((edges_of es).limit i) +ℤ gain ((edges_of es).reverse_cost i) ((edges_of es).reverse_limit i)
      same i h = ap₂ (λ (a b : ℤ). a +ℤ b) (ap (gain (l.cost i)) (limit_is i h)) (ap₂ gain (back_is i) (reverse_limit_is i h))

  pub represents_links : (g : Graph) (arc : ℕ → ℕ) → Represents (edges_of es) g arc → Represents l g arc
  represents_links g arc b =
      record {
        within = b.within;
        tail = b.tail;
        head = b.head;
        cost = b.cost;
        reverse_cost = λ i h. b.reverse_cost i h ∙ sym (back_is i);
        limit = λ i h. b.limit i h ∙ sym (limit_is i h);
        reverse_limit = λ i h. b.reverse_limit i h ∙ sym (reverse_limit_is i h);
        edge = b.edge;
        single = b.single;
        apart = b.apart;
      }
