-- Nodes that are moved by one together.
use Rattle.std.specs.Prelude.{ℕ, ◌<◌, Bool, if◌then◌else◌, ℤ, pos, ◌+ℤ◌, ◌-ℤ◌, int_le}
use Rattle.net_links.specs.Links.{Links, Numbers, links_cost, Between}

-- the nodes of a set are one higher
abbrev pub raised : (ℕ → Bool) → Numbers → Numbers
raised s v w = v w +ℤ (if s w then pos 1 else pos 0)

-- the nodes at which b lies at least c above t
abbrev pub level_set : ℤ → (t b : Numbers) → ℕ → Bool
level_set c t b w = int_le c (b w -ℤ t w)

-- where b costs less than t, so does t with all nodes one higher at which b lies as far above it as at some node w, or farther
abbrev pub SomeLevelSetIsBetter : Type 0
SomeLevelSetIsBetter =
    (l : Links) (nodes : ℕ) (t b : Numbers) → Between l nodes → links_cost l b < links_cost l t →
    (w : ℕ) × (w < nodes) × (links_cost l (raised (level_set (b w -ℤ t w) t b) t) < links_cost l t)
