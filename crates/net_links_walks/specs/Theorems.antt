-- What walks say of numbers that cost nothing. Each theorem is a statement, a type whose proof is owed.
use Rattle.std.specs.Prelude.{◌≡◌, ◌↔◌, ℕ, ℤ, ◌+ℤ◌}
use Rattle.net_links.specs.Links.{Links, Numbers, links_cost}
use Rattle.net_links_walks.specs.Walks.{Exact, Walk, ClosedWalksVanish}

-- numbers that cost nothing rise along each walk by what is expected
abbrev pub ZeroCostRisesAsExpected : Type 0
ZeroCostRisesAsExpected =
    (l : Links) (v : Numbers) → Exact l → links_cost l v ≡ 0 → (a b : ℕ) (e : ℤ) → Walk l a b e → v b ≡ v a +ℤ e

-- some numbers cost nothing if and only if what is expected adds up to 0 along every closed walk
abbrev pub ZeroCostIffClosedWalksVanish : Type 0
ZeroCostIffClosedWalksVanish = (l : Links) → Exact l → ((v : Numbers) × (links_cost l v ≡ 0)) ↔ ClosedWalksVanish l

-- two that cost nothing differ by one number over all that walks from a node lead to: everywhere, if all is connected by links with a price
abbrev pub ZeroCostUniqueByPart : Type 0
ZeroCostUniqueByPart =
    (l : Links) (u v : Numbers) → Exact l → links_cost l u ≡ 0 → links_cost l v ≡ 0 → (a : ℕ) →
    (k : ℤ) × ((b : ℕ) (e : ℤ) → Walk l a b e → v b ≡ u b +ℤ k)
