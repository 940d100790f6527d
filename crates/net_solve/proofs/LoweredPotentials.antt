-- One potential lowered after another.
use Rattle.std.proofs.Common.{◌≡◌, ℕ, ◌+◌, ◌<◌, ◌≤◌, ℤ, ◌+ℤ◌, sym, ap, ◌∙◌, inl, inr, arith}
use Rattle.std.proofs.lemmas.Int.{ints}
use Rattle.std.proofs.lemmas.Bool.{cases_eq}
use Rattle.net_graph.specs.Graph.{at}
use Rattle.net_graph.proofs.Points.{at_same, at_other}

-- p was there, q has the first k nodes lowered by `by`, r also node u, which stands at place k
module _ (n m : ℕ) (place order : ℕ → ℕ) (back : (k : ℕ) → k < m → place (order k) ≡ k) (there : (v : ℕ) → v < n → place v < m → order (place v) ≡ v) (p q r by : ℕ → ℤ) (k u : ℕ) (h : k < m) (u_is : u ≡ order k) (d : ℤ) (d_is : d ≡ by u)
    (changed : (v : ℕ) → r v ≡ (q v +ℤ at u d v)) (low : (v : ℕ) → v < n → place v < k → q v ≡ (p v +ℤ by v)) (same : (v : ℕ) → v < n → k ≤ place v → q v ≡ p v) where
  pub one_more : (v : ℕ) → v < n → place v < k + 1 → r v ≡ (p v +ℤ by v)
  one_more v l x = elim (cases_eq v u) [
    | inl e ↦ omega (arith, ints, changed v, at_same u v d e, d_is, ap by e, same v l (omega (arith, ap place (e ∙ u_is), back k h)))
    | inr y ↦ omega (arith, ints, changed v, at_other u v d y, low v l (before y))
  ]
    where
      before : (v ≡ u → ⊥) → place v < k
      before y = elim (cases_eq (place v) k) [ inl e ↦ absurd (y (sym (there v l (omega (arith, e, h))) ∙ (ap order e ∙ sym u_is))) | inr z ↦ omega (arith, z) ]

  pub others_stay : (v : ℕ) → v < n → k + 1 ≤ place v → r v ≡ p v
  others_stay v l x = omega (arith, ints, changed v, at_other u v d (λ e. omega (arith, ap place (e ∙ u_is), back k h)), same v l (omega arith))
