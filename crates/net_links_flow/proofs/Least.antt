-- Potentials that make a circulation in the network of links cheapest cost least as numbers of the nodes.
use Rattle.std.proofs.Common.{◌≡◌, ℕ, ◌*◌, ◌<◌, ℤ, pos, ◌+ℤ◌, ◌-ℤ◌, ◌*ℤ◌, neg_ℤ, sym, refl, ap, ◌∙◌, mul-add, arith}
use borrow.Author.Differences.{up}
use Rattle.std.proofs.lemmas.Int.{ints}
use Rattle.sums.proofs.Ring.{mul_zero_ℤ, neg_mul_ℤ}
use Rattle.sums.proofs.Sum.{sum_ℤ_ext, sum_ℤ_zero, sum_ℤ_pos, sum_ℤ_neg}
use Rattle.net_graph.specs.Graph.{Graph, IsNetwork, IsPseudoflow, IsReducedCostOptimal}
use Rattle.net_graph.proofs.Points.{head_pair}
use Rattle.net_theory.specs.Theorems.{total_cost, Meets}
use Rattle.net_dual.specs.Dual.{potential_cost, supply_value}
use Rattle.net_dual.proofs.Dual.{flow_bounds, optimal_reaches}
use Rattle.net_build.specs.Edges.{Represents}
use Rattle.net_build.proofs.Edges.{arcs_sum, paired, outflow_edges}
use Rattle.net_links.specs.Links.{Links, Numbers, beyond, rise, links_cost, CostLeast, lower_bound, Certified}
use Rattle.net_links_flow.specs.Network.{links_edges}
use Rattle.net_links_flow.specs.Theorems.{OptimalIsLeast}

module _ (l : Links) (g : Graph) (arc : ℕ → ℕ) (b : Represents (links_edges l) g arc) (w : IsNetwork g) where
  -- what potentials cost is what they cost as numbers of the nodes
  pub cost_is : (q : Numbers) → potential_cost g q ≡ pos (links_cost l q)
  unfolding potential_cost links_cost
  cost_is q =
      arcs_sum (links_edges l) g arc b (paired g w) f
      ∙ (sum_ℤ_ext l.count (λ i. f (arc i) +ℤ f (g.pair (arc i))) (λ i. pos (l.price i * beyond (l.low i) (l.high i) (rise l q i))) each
      ∙ sum_ℤ_pos l.count (λ i. l.price i * beyond (l.low i) (l.high i) (rise l q i)))
    where
      f : ℕ → ℤ
      f a = g.limit a *ℤ pos (up ((q (g.head a) -ℤ q (g.tail a)) -ℤ g.cost a))

      turned : (y z k : ℤ) → ((y -ℤ z) -ℤ neg_ℤ k) ≡ (k -ℤ (z -ℤ y))
      turned y z k = omega (arith, ints)

      each : (i : ℕ) → i < l.count → f (arc i) +ℤ f (g.pair (arc i)) ≡ pos (l.price i * beyond (l.low i) (l.high i) (rise l q i))
      each i h =
          let y = b.within i h in
          rw (b.limit i h, b.cost i h, b.head i h, b.tail i h, b.reverse_limit i h, b.reverse_cost i h, (w.arc (arc i) y).turned, head_pair g (arc i) w y, b.head i h, b.tail i h)
          (omega (arith, ints, mul-add (l.price i) (up (rise l q i -ℤ l.high i)) (up (l.low i -ℤ rise l q i)), ap (λ (z : ℤ). l.price i * up z) (turned (q (l.from i)) (q (l.to i)) (l.low i))))

  module _ (x : ℕ → ℤ) (fx : IsPseudoflow g x) where
    pub bound_is : neg_ℤ (total_cost g x) ≡ lower_bound l (λ i. x (arc i))
    unfolding total_cost lower_bound
    bound_is =
        ap neg_ℤ (arcs_sum (links_edges l) g arc b (paired g w) (λ a. g.cost a *ℤ pos (up (x a))))
        ∙ (sym (sum_ℤ_neg l.count (λ i. (g.cost (arc i) *ℤ pos (up (x (arc i)))) +ℤ (g.cost (g.pair (arc i)) *ℤ pos (up (x (g.pair (arc i)))))))
        ∙ sum_ℤ_ext l.count (λ i. neg_ℤ ((g.cost (arc i) *ℤ pos (up (x (arc i)))) +ℤ (g.cost (g.pair (arc i)) *ℤ pos (up (x (g.pair (arc i))))))) (λ i. (l.low i *ℤ pos (up (neg_ℤ (x (arc i))))) -ℤ (l.high i *ℤ pos (up (x (arc i))))) each)
      where
        each : (i : ℕ) → i < l.count → neg_ℤ ((g.cost (arc i) *ℤ pos (up (x (arc i)))) +ℤ (g.cost (g.pair (arc i)) *ℤ pos (up (x (g.pair (arc i)))))) ≡ ((l.low i *ℤ pos (up (neg_ℤ (x (arc i))))) -ℤ (l.high i *ℤ pos (up (x (arc i)))))
        each i h = rw (b.cost i h, b.reverse_cost i h, fx.opposite (arc i) (b.within i h)) (omega (arith, ints, neg_mul_ℤ (l.low i) (pos (up (neg_ℤ (x (arc i)))))))

-- what supplies nothing brings nothing
no_supply : (g : Graph) (e : ℕ → ℤ) → ((v : ℕ) → v < g.nodes → e v ≡ pos 0) → (q : Numbers) → supply_value g e q ≡ pos 0
unfolding supply_value
no_supply g e none q = sum_ℤ_zero g.nodes (λ v. q v *ℤ e v) (λ v h. ap (λ (z : ℤ). q v *ℤ z) (none v h) ∙ mul_zero_ℤ (q v))

module _ (l : Links) (g : Graph) (arc : ℕ → ℕ) (x : ℕ → ℤ) (p : Numbers) (b : Represents (links_edges l) g arc) (w : IsNetwork g) (fx : IsPseudoflow g x) (m : Meets g x (λ v. pos 0)) (o : IsReducedCostOptimal g x p) where
  reached : potential_cost g p ≡ neg_ℤ (total_cost g x)
  reached = omega (arith, ints, optimal_reaches g w (λ v. pos 0) x fx m p o, no_supply g (λ v. pos 0) (λ v h. refl) p)

  least : CostLeast l p
  least u = omega (arith, ints, reached, flow_bounds g w (λ v. pos 0) x fx m u, no_supply g (λ v. pos 0) (λ v h. refl) u, cost_is l g arc b w u, cost_is l g arc b w p)

  certified : Certified l g.nodes p (λ i. x (arc i))
  certified =
      record {
        circulation =
            record {
              within = λ i h. omega (arith, ints, fx.within (arc i) (b.within i h), b.limit i h, fx.within (g.pair (arc i)) (w.arc (arc i) (b.within i h)).pair, b.reverse_limit i h, fx.opposite (arc i) (b.within i h));
              conserved = λ v h. sym (outflow_edges (links_edges l) g arc b w x fx v) ∙ m v h;
            };
        reached = sym (cost_is l g arc b w p) ∙ (reached ∙ bound_is l g arc b w x fx);
      }

pub optimal_is_least : OptimalIsLeast
optimal_is_least l g arc x p b w fx m o = (least l g arc x p b w fx m o, certified l g arc x p b w fx m o)
