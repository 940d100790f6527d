-- Supplies that are balanced, counted as what is given and what is taken.
use Rattle.std.proofs.Common.{◌≡◌, ℕ, ◌≤◌, ℤ, pos, neg_ℤ, ap, ◌∙◌, arith}
use borrow.Author.Differences.{up}
use Rattle.std.proofs.lemmas.Int.{ints}
use Rattle.sums.specs.Sum.{sum_to}
use Rattle.sums.proofs.Sum.{sum_longer}
use Rattle.net_search.proofs.PathPush.{parts}
use Rattle.net_solve.specs.Promise.{Balanced}

-- what a node takes is what its excess gives with the other sign
pub demand_is : (e x r : ℤ) → r ≡ pos (up x) → x ≡ neg_ℤ e → r ≡ pos (up (neg_ℤ e))
demand_is e x r h q = h ∙ ap (λ (z : ℤ). pos (up z)) q

-- balanced supplies: no part of what is given or taken is too much
pub balanced_parts : (n : ℕ) (e : ℕ → ℤ) → Balanced n e → (k : ℕ) → k ≤ n → (sum_to k (λ v. up (e v)) ≤ 576460752303423488) × (sum_to k (λ v. up (neg_ℤ (e v))) ≤ 576460752303423488)
balanced_parts n e b k h = (
  omega (arith, sum_longer k n (λ v. up (e v)) h, b.few),
  omega (arith, ints, sum_longer k n (λ v. up (neg_ℤ (e v))) h, b.few, b.even, parts n e),
)

pub balanced_ends : (n : ℕ) (e : ℕ → ℤ) → Balanced n e → sum_to n (λ v. up (e v)) ≡ sum_to n (λ v. up (neg_ℤ (e v)))
balanced_ends n e b = omega (arith, ints, b.even, parts n e)

pub is_balanced : (n : ℕ) (e : ℕ → ℤ) → sum_to n (λ v. up (e v)) ≤ 576460752303423488 → sum_to n (λ v. up (e v)) ≡ sum_to n (λ v. up (neg_ℤ (e v))) → Balanced n e
is_balanced n e h q = record { even = omega (arith, ints, q, parts n e); few = h }
