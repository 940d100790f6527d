-- What is true of links. Each theorem is a statement, a type whose proof is owed.
use Rattle.std.specs.Prelude.{◌≡◌, ◌≢◌, ◌⊎◌, ℕ, ◌<◌, ℤ, pos, ◌≤ℤ◌}
use Rattle.net_links.specs.Links.{Links, Numbers, rise, links_cost, CostLeast, Holds, Between, Circulation, lower_bound, Certified, other_prices, shifted, plus}

-- no numbers cost less than a circulation shows
abbrev pub CirculationBoundsCost : Type 0
CirculationBoundsCost =
    (l : Links) (nodes : ℕ) (x : ℕ → ℤ) → Between l nodes → Circulation l nodes x → (u : Numbers) → lower_bound l x ≤ℤ pos (links_cost l u)

-- numbers that cost just that cost least
abbrev pub CertifiedIsLeast : Type 0
CertifiedIsLeast = (l : Links) (nodes : ℕ) (v : Numbers) (x : ℕ → ℤ) → Between l nodes → Certified l nodes v x → CostLeast l v

-- a link that is dearer than all else at one of its ends holds wherever numbers cost least
abbrev pub DearLinkHolds : Type 0
DearLinkHolds =
    (l : Links) (v : Numbers) (w i : ℕ) → i < l.count → l.low i ≤ℤ l.high i → l.from i ≢ l.to i → (w ≡ l.from i) ⊎ (w ≡ l.to i) →
    other_prices l w i < l.price i → CostLeast l v → Holds l v i

-- numbers that are counted from t cost what they cost with t added
abbrev pub ShiftedCost : Type 0
ShiftedCost = (l : Links) (t p : Numbers) → links_cost (shifted l t) p ≡ links_cost l (plus t p)

-- numbers that rise alike along all links cost the same
abbrev pub RisesTellCost : Type 0
RisesTellCost = (l : Links) (u v : Numbers) → ((i : ℕ) → i < l.count → rise l u i ≡ rise l v i) → links_cost l u ≡ links_cost l v
