-- What moves along a way.
use Rattle.std.specs.Prelude.{◌≡◌, ℕ, zero, suc, ◌+◌, ◌<◌, ◌≤◌, ◌==◌, Bool, true, false, if◌then◌else◌, ◌⊎◌, ℤ, pos, negsuc, ◌+ℤ◌, ◌-ℤ◌, neg_ℤ, ◌≤ℤ◌, ◌<ℤ◌, ◌≢◌, unsigned_abs}
use Rattle.sums.specs.Sum.{sum_to}
use Rattle.net_cells.specs.Net.{Residual, back, unit, price}

-- a goes where nothing is left untight: no more is taken off than goes against it
abbrev pub Fits : ℤ → ℤ → Type 0
Fits a (pos n) = pos 0 ≤ℤ a
Fits a (negsuc n) = (pos 0 ≤ℤ a) × (a ≤ℤ pos (suc n))

-- a has gone along way d of cell u, and the costs of that edge are made ready
pub record Moved (u d : ℕ) (a : ℤ) (g h : Residual) (flow flow' : ℕ → ℕ → ℤ) : Type 0 where
  pub here : flow' u d ≡ flow u d +ℤ a
  pub there : flow' (g.head u d) (back d) ≡ flow (g.head u d) (back d) -ℤ a
  pub other : (w e : ℕ) → g.inner w ≡ true → e < 4 → (w ≡ u → e ≡ d → ⊥) → (w ≡ g.head u d → e ≡ back d → ⊥) → flow' w e ≡ flow w e
  pub cost_here : h.cost u d ≡ unit (price g u d) (flow' u d)
  pub cost_there : h.cost (g.head u d) (back d) ≡ unit (price g u d) (neg_ℤ (flow' u d))
  pub cost_other : (w e : ℕ) → e < 4 → (w ≡ u → e ≡ d → ⊥) → (w ≡ g.head u d → e ≡ back d → ⊥) → h.cost w e ≡ g.cost w e
  pub inner : (w : ℕ) → h.inner w ≡ g.inner w
  pub head : (w e : ℕ) → h.head w e ≡ g.head w e
  pub potential : (w : ℕ) → h.potential w ≡ g.potential w

-- z at k, and nothing elsewhere
abbrev pub at : ℕ → ℤ → ℕ → ℤ
at k z i = if i == k then z else pos 0

-- what is left in the inner ones of m cells, either way
abbrev pub left : ℕ → (ℕ → Bool) → (ℕ → ℤ) → ℕ
left m inner excess = sum_to m (λ v. if inner v then unsigned_abs (excess v) else 0)
