-- Links that are fit make edges that are.
use Rattle.std.proofs.Common.{◌≡◌, ℕ, ℤ, pos, ◌+ℤ◌, neg_ℤ, ◌≤ℤ◌, ◌<ℤ◌, inl, inr, arith}
use lib.Signed.{lt_z}
use Rattle.std.proofs.lemmas.Int.{ints}
use Rattle.std.proofs.lemmas.Bool.{cond-true, cond-false}
use Rattle.sums.proofs.Sum.{member_le_sum, sum_ℤ_le, sum_ℤ_pos}
use Rattle.net_graph.proofs.Points.{cases_lt_ℤ, lt_yes, lt_no}
use Rattle.net_build.specs.Grouped.{gain}
use Rattle.net_links_flow.specs.Theorems.{LinksFit}

gain_yes : (c m : ℤ) → c <ℤ pos 0 → gain c m ≡ m
gain_yes c m h = cond-true (lt_z c (pos 0)) m (pos 0) (lt_yes c (pos 0) h)

gain_no : (c m : ℤ) → pos 0 ≤ℤ c → gain c m ≡ pos 0
gain_no c m h = cond-false (lt_z c (pos 0)) m (pos 0) (lt_no c (pos 0) h)

-- of the two ways of a link one at most costs less than nothing
one_gains : (low high : ℤ) (p : ℕ) → low ≤ℤ high → (gain high (pos p) +ℤ gain (neg_ℤ low) (pos p)) ≤ℤ pos p
one_gains low high p h = elim (cases_lt_ℤ high (pos 0)) [
  | inl l ↦ omega (arith, ints, gain_yes high (pos p) l, gain_no (neg_ℤ low) (pos p) (omega (arith, ints)))
  | inr l ↦ elim (cases_lt_ℤ (neg_ℤ low) (pos 0)) [
    | inl m ↦ omega (arith, ints, gain_no high (pos p) l, gain_yes (neg_ℤ low) (pos p) m)
    | inr m ↦ omega (arith, ints, gain_no high (pos p) l, gain_no (neg_ℤ low) (pos p) m)
  ]
]

pub links_fit : LinksFit
links_fit l nodes f =
    record {
      few_nodes = f.few_nodes;
      few_edges = f.few;
      between = λ i h. (f.between.from i h, f.between.to i h);
      cheap = f.high_small;
      reverse_cheap = λ i h. omega (arith, ints, f.low_small i h);
      allowed = λ i h. omega (arith, ints);
      reverse_allowed = λ i h. omega (arith, ints);
      limited = λ i h. omega (arith, ints, member_le_sum l.count i l.price h, f.priced);
      reverse_limited = λ i h. omega (arith, ints, member_le_sum l.count i l.price h, f.priced);
      convex = λ i h. omega (arith, ints, f.ordered i h);
      gained = omega (arith, ints, f.priced, sum_ℤ_pos l.count l.price, sum_ℤ_le l.count (λ i. gain (l.high i) (pos (l.price i)) +ℤ gain (neg_ℤ (l.low i)) (pos (l.price i))) (λ i. pos (l.price i)) (λ i h. one_gains (l.low i) (l.high i) (l.price i) (f.ordered i h)));
    }
