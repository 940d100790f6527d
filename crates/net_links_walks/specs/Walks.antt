-- Walks along links of which one difference is expected.
use Rattle.std.specs.Prelude.{◌≡◌, ℕ, ◌<◌, ◌≤◌, ℤ, pos, ◌+ℤ◌, ◌-ℤ◌}
use Rattle.net_links.specs.Links.{Links}

-- one difference is expected along each link
abbrev pub Exact : Links → Type 0
Exact l = (i : ℕ) → i < l.count → l.low i ≡ l.high i

-- A walk from node u along links that have a price, either way, to some node, and what is expected along it in all: what is expected
-- along a link that is walked from its end to where it begins counts with the other sign.
pub data Walk (l : Links) (u : ℕ) : ℕ → ℤ → Type 0 where
  here : Walk l u u (pos 0)
  forth : (i : ℕ) {e : ℤ} → i < l.count → 1 ≤ l.price i → Walk l u (l.from i) e → Walk l u (l.to i) (e +ℤ l.low i)
  back : (i : ℕ) {e : ℤ} → i < l.count → 1 ≤ l.price i → Walk l u (l.to i) e → Walk l u (l.from i) (e -ℤ l.low i)

-- what is expected along every closed walk adds up to 0
abbrev pub ClosedWalksVanish : Links → Type 0
ClosedWalksVanish l = (u : ℕ) (e : ℤ) → Walk l u u e → e ≡ pos 0
