-- Links between nodes, and what numbers of the nodes cost.
use Rattle.std.specs.Prelude.{◌≡◌, ℕ, ◌+◌, ◌*◌, ◌<◌, ◌≤◌, ℤ, pos, ◌+ℤ◌, ◌-ℤ◌, ◌*ℤ◌, neg_ℤ, ◌≤ℤ◌, if◌then◌else◌, ◌==◌, unsigned_abs}
use borrow.Author.Differences.{up}
use Rattle.sums.specs.Sum.{sum_to, sum_ℤ}

-- Link i goes from one node to another: the number of the second is expected to lie low i up to high i above that of the first, and each by which it
-- lies beyond costs the link's price. Where low and high are the same, one difference is expected.
pub record Links : Type 0 where
  pub count : ℕ
  pub from : ℕ → ℕ
  pub to : ℕ → ℕ
  pub low : ℕ → ℤ
  pub high : ℕ → ℤ
  pub price : ℕ → ℕ

-- a number for each node
abbrev pub Numbers : Type 0
Numbers = ℕ → ℤ

-- by how much d lies beyond low up to high
abbrev pub beyond : (low high d : ℤ) → ℕ
beyond low high d = up (d -ℤ high) + up (low -ℤ d)

-- by how much the number at the end of link i lies above the one where it begins
abbrev pub rise : Links → Numbers → ℕ → ℤ
rise l v i = v (l.to i) -ℤ v (l.from i)

unfoldable pub links_cost : Links → Numbers → ℕ
links_cost l v = sum_to l.count (λ i. l.price i * beyond (l.low i) (l.high i) (rise l v i))

-- no numbers cost less
abbrev pub CostLeast : Links → Numbers → Type 0
CostLeast l v = (u : Numbers) → links_cost l v ≤ links_cost l u

-- what is expected along link i is so
pub record Holds (l : Links) (v : Numbers) (i : ℕ) : Type 0 where
  pub above : l.low i ≤ℤ rise l v i
  pub below : rise l v i ≤ℤ l.high i

-- the links are between so many nodes
pub record Between (l : Links) (nodes : ℕ) : Type 0 where
  pub from : (i : ℕ) → i < l.count → l.from i < nodes
  pub to : (i : ℕ) → i < l.count → l.to i < nodes

-- ---- the certificate that numbers cost least

-- what a flow of z along link i takes out of node v: a loop takes nothing
abbrev pub taken : Links → ℕ → ℕ → ℤ → ℤ
taken l v i z = (if l.from i == v then z else pos 0) -ℤ (if l.to i == v then z else pos 0)

-- a flow along the links, no more than its price along each, either way, of which as much leaves each node as comes to it
pub record Circulation (l : Links) (nodes : ℕ) (x : ℕ → ℤ) : Type 0 where
  pub within : (i : ℕ) → i < l.count → unsigned_abs (x i) ≤ l.price i
  pub conserved : (v : ℕ) → v < nodes → sum_ℤ l.count (λ i. taken l v i (x i)) ≡ pos 0

-- what no numbers cost less than, as a circulation shows
unfoldable pub lower_bound : Links → (ℕ → ℤ) → ℤ
lower_bound l x = sum_ℤ l.count (λ i. (l.low i *ℤ pos (up (neg_ℤ (x i)))) -ℤ (l.high i *ℤ pos (up (x i))))

-- such a circulation reaches what the numbers cost: then they cost least
pub record Certified (l : Links) (nodes : ℕ) (v : Numbers) (x : ℕ → ℤ) : Type 0 where
  pub circulation : Circulation l nodes x
  pub reached : pos (links_cost l v) ≡ lower_bound l x

-- ---- a dear link

-- how many ends of link j are at node w; a loop never rises, and does not count
abbrev pub ends_at : Links → ℕ → ℕ → ℕ
ends_at l w j = if l.from j == l.to j then 0 else (if l.from j == w then 1 else 0) + (if l.to j == w then 1 else 0)

-- the prices of all links but i that end or begin at node w
abbrev pub other_prices : Links → ℕ → ℕ → ℕ
other_prices l w i = sum_to l.count (λ j. if j == i then 0 else l.price j * ends_at l w j)

-- ---- numbers that are known before

-- the links where numbers are counted from t: what t rises is taken from what is expected
abbrev pub shifted : Links → Numbers → Links
shifted l t =
    record {
      count = l.count;
      from = l.from;
      to = l.to;
      low = λ i. l.low i -ℤ rise l t i;
      high = λ i. l.high i -ℤ rise l t i;
      price = l.price;
    }

abbrev pub plus : Numbers → Numbers → Numbers
plus t p v = t v +ℤ p v
