-- Cells with four ways out of each, as one search for cheapest ways sees them.
use Rattle.std.specs.Prelude.{◌≡◌, ℕ, zero, suc, ◌<◌, ◌≤◌, Bool, true, false, ◌⊎◌, ℤ, pos, negsuc, ◌+ℤ◌, ◌-ℤ◌, neg_ℤ, ◌≤ℤ◌, ◌<ℤ◌, ◌≢◌, unsigned_abs}

-- of what is for right, left, up, down
abbrev pub of_four : {A : Type 0} → ℕ → A → A → A → A → A
of_four zero a b c e = a
of_four (suc zero) a b c e = b
of_four (suc (suc zero)) a b c e = c
of_four (suc (suc (suc d))) a b c e = e

-- the same step the other way
unfoldable pub back : ℕ → ℕ
back d = of_four d 1 0 3 2

-- Ways d < 4 out of each inner cell, and what a unit more costs by each. All other cells are outside.
pub record Residual : Type 0 where
  pub inner : ℕ → Bool
  pub head : ℕ → ℕ → ℕ
  pub cost : ℕ → ℕ → ℤ
  pub excess : ℕ → ℤ
  pub potential : ℕ → ℤ

-- a way leads to another cell, and back from there by the same step the other way
pub record Paired (g : Residual) : Type 0 where
  pub home : (u d : ℕ) → g.inner u ≡ true → d < 4 → g.head (g.head u d) (back d) ≡ u
  pub apart : (u d : ℕ) → g.inner u ≡ true → d < 4 → (g.head u d ≢ u)

-- what a unit more costs, seen from the potentials: by a way, and by the way back
abbrev pub reduced : Residual → ℕ → ℕ → ℤ
reduced g u d = (g.cost u d +ℤ g.potential u) -ℤ g.potential (g.head u d)

abbrev pub reduced_back : Residual → ℕ → ℕ → ℤ
reduced_back g u d = (g.cost (g.head u d) (back d) +ℤ g.potential (g.head u d)) -ℤ g.potential u

-- no reduced cost is below 0, and all outside has the potential 0
pub record Feasible (g : Residual) : Type 0 where
  pub paired : Paired g
  pub forward : (u d : ℕ) → g.inner u ≡ true → d < 4 → pos 0 ≤ℤ reduced g u d
  pub backward : (u d : ℕ) → g.inner u ≡ true → d < 4 → pos 0 ≤ℤ reduced_back g u d
  pub outside : (v : ℕ) → g.inner v ≡ false → g.potential v ≡ pos 0

-- what a unit more costs on an edge of this price, over which z flows
abbrev pub unit : ℕ → ℤ → ℤ
unit price (pos n) = pos price
unit price (negsuc n) = neg_ℤ (pos price)

-- the edge by a way out of a cell
abbrev pub price : Residual → ℕ → ℕ → ℕ
price g u d = unsigned_abs (g.cost u d)

abbrev pub out : (ℕ → ℕ → ℤ) → ℕ → ℤ
out flow u = ((flow u 0 +ℤ flow u 1) +ℤ flow u 2) +ℤ flow u 3

-- the costs are those of this flow, at both ends of an edge
pub record Ready (g : Residual) (flow : ℕ → ℕ → ℤ) : Type 0 where
  pub here : (u d : ℕ) → g.inner u ≡ true → d < 4 → g.cost u d ≡ unit (price g u d) (flow u d)
  pub there : (u d : ℕ) → g.inner u ≡ true → d < 4 → g.cost (g.head u d) (back d) ≡ unit (price g u d) (neg_ℤ (flow u d))

-- z flows over an edge at whose end the potential is d more
pub record Tight (price : ℕ) (z d : ℤ) : Type 0 where
  pub small : unsigned_abs d ≤ price
  pub along : pos 0 <ℤ z → d ≡ pos price
  pub against : z <ℤ pos 0 → d ≡ neg_ℤ (pos price)
