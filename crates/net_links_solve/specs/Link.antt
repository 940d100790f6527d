-- Links as edges.
use Rattle.std.specs.Prelude.{◌≡◌, ℕ, ◌<◌, List, length, ℤ, pos, neg_ℤ, ◌≤ℤ◌, slice_index_or}
use borrow.Author.Differences.{up}
use Rattle.net_build.specs.Ends.{no_edge, from_of, to_of}
use Rattle.net_build.specs.declared.edge.Edge.{Edge}
use Rattle.net_links.specs.Links.{Links, Numbers}

-- an edge that costs high a unit, and minus low back, and takes as much as the price either way
pub record IsLink (e : Edge) (from to : ℕ) (low high : ℤ) (price : ℕ) : Type 0 where
  pub from_is : e.from ≡ from
  pub to_is : e.to ≡ to
  pub high_is : e.cost ≡ high
  pub low_is : e.reverse_cost ≡ neg_ℤ low
  pub price_is : e.limit ≡ pos price
  pub price_back : e.reverse_limit ≡ pos price

-- the links that a list of edges says
abbrev pub links_of : List Edge → Links
links_of es =
    record {
      count = length es;
      from = from_of es;
      to = to_of es;
      low = λ i. neg_ℤ (slice_index_or es i no_edge).reverse_cost;
      high = λ i. (slice_index_or es i no_edge).cost;
      price = λ i. up (slice_index_or es i no_edge).limit;
    }

-- an edge takes as much back as there, and not less than nothing
pub record TakesAlike (e : Edge) : Type 0 where
  pub allowed : pos 0 ≤ℤ e.limit
  pub alike : e.reverse_limit ≡ e.limit

-- each edge of a list is a link
abbrev pub AreLinks : List Edge → Type 0
AreLinks es = (i : ℕ) → i < length es → TakesAlike (slice_index_or es i no_edge)

-- the numbers that a list says
abbrev pub numbers_in : List ℤ → Numbers
numbers_in ns v = slice_index_or ns v (pos 0)
