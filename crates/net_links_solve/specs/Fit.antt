-- Links that are fit for a network, one by one and together.
use Rattle.std.specs.Prelude.{ℕ, ◌^◌, ◌<◌, ◌≤◌, List, neg_ℤ, ◌≤ℤ◌, unsigned_abs}
use Rattle.net_build.specs.declared.edge.Edge.{Edge}
use Rattle.net_links_flow.specs.Network.{FitLinks}
use Rattle.net_links_solve.specs.Link.{TakesAlike, AreLinks, links_of}

-- an edge is a link between so many nodes of which a network can be made
pub record FitLink (nodes : ℕ) (e : Edge) : Type 0 where
  pub takes : TakesAlike e
  pub from : e.from < nodes
  pub to : e.to < nodes
  pub ordered : neg_ℤ e.reverse_cost ≤ℤ e.cost
  pub low_small : unsigned_abs e.reverse_cost ≤ 2 ^ 30
  pub high_small : unsigned_abs e.cost ≤ 2 ^ 30

-- edges are links of which a network can be made
pub record FitList (nodes : ℕ) (es : List Edge) : Type 0 where
  pub links : AreLinks es
  pub fit : FitLinks (links_of es) nodes
