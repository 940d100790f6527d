-- The network of links.
use Rattle.std.specs.Prelude.{ℕ, ◌^◌, ◌<◌, ◌≤◌, pos, neg_ℤ, ◌≤ℤ◌, unsigned_abs}
use Rattle.sums.specs.Sum.{sum_to}
use Rattle.net_build.specs.Edges.{Edges}
use Rattle.net_links.specs.Links.{Links, Between}

-- links of which a network can be made
pub record FitLinks (l : Links) (nodes : ℕ) : Type 0 where
  pub few_nodes : nodes ≤ 2 ^ 28
  pub few : l.count ≤ 2 ^ 31
  pub between : Between l nodes
  pub ordered : (i : ℕ) → i < l.count → l.low i ≤ℤ l.high i
  pub low_small : (i : ℕ) → i < l.count → unsigned_abs (l.low i) ≤ 2 ^ 30
  pub high_small : (i : ℕ) → i < l.count → unsigned_abs (l.high i) ≤ 2 ^ 30
  pub priced : sum_to l.count l.price ≤ 2 ^ 59

-- Link i is an edge that costs high i a unit, and minus low i back, and takes as much as the link's price either way. Its potentials are numbers of the nodes.
abbrev pub links_edges : Links → Edges
links_edges l =
    record {
      count = l.count;
      from = l.from;
      to = l.to;
      cost = l.high;
      reverse_cost = λ i. neg_ℤ (l.low i);
      limit = λ i. pos (l.price i);
      reverse_limit = λ i. pos (l.price i);
    }
