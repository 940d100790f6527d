-- What is added up in a loop, each no more than a bound.
use Rattle.std.proofs.Common.{◌≡◌, ℕ, ◌+◌, ◌*◌, ◌≤◌, sym, ap, ◌∙◌, arith}
use Rattle.sums.specs.Sum.{sum_to}
use Rattle.sums.proofs.Loop.{sum_none, sum_more}

pub record SoFar (g : ℕ → ℕ) (most n all : ℕ) : Type 0 where
  pub is : all ≡ sum_to n g
  pub small : all ≤ n * most

pub none_yet : (g : ℕ → ℕ) (most : ℕ) → SoFar g most 0 0
none_yet g most = record { is = sym (sum_none g); small = omega arith }

pub one_more : (g : ℕ → ℕ) (most n all r : ℕ) → SoFar g most n all → r ≡ g n → r ≤ most → SoFar g most (n + 1) (all + r)
one_more g most n all r s e l = record { is = omega (arith, s.is, sum_more n g, e); small = omega (arith, s.small, l) }

pub all_added : (g : ℕ → ℕ) (most n all m : ℕ) → SoFar g most n all → n ≡ m → all ≡ sum_to m g
all_added g most n all m s e = s.is ∙ ap (λ (k : ℕ). sum_to k g) e
