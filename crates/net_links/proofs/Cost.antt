-- What numbers cost is told by how they rise.
use Rattle.std.proofs.Common.{◌≡◌, ℕ, ◌*◌, ℤ, ◌+ℤ◌, ◌-ℤ◌, ap, arith}
use borrow.Author.Differences.{up}
use Rattle.std.proofs.lemmas.Int.{ints}
use Rattle.sums.proofs.Sum.{sum_ext}
use Rattle.net_links.specs.Links.{beyond, rise, links_cost, plus}
use Rattle.net_links.specs.Theorems.{ShiftedCost, RisesTellCost}

pub rises_tell_cost : RisesTellCost
unfolding links_cost
rises_tell_cost l u v h =
    sum_ext l.count (λ i. l.price i * beyond (l.low i) (l.high i) (rise l u i)) (λ i. l.price i * beyond (l.low i) (l.high i) (rise l v i))
    (λ i k. ap (λ (r : ℤ). l.price i * beyond (l.low i) (l.high i) r) (h i k))

-- what lies beyond is the same where both ends and what is expected are moved alike; tt and tf are moved by pt and pf
beyond_shifted : (low high tt tf pt pf : ℤ) → beyond (low -ℤ (tt -ℤ tf)) (high -ℤ (tt -ℤ tf)) (pt -ℤ pf) ≡ beyond low high ((tt +ℤ pt) -ℤ (tf +ℤ pf))
beyond_shifted low high tt tf pt pf = omega (arith, ap up above, ap up below)
  where
    above : ((pt -ℤ pf) -ℤ (high -ℤ (tt -ℤ tf))) ≡ (((tt +ℤ pt) -ℤ (tf +ℤ pf)) -ℤ high)
    above = omega (arith, ints)

    below : ((low -ℤ (tt -ℤ tf)) -ℤ (pt -ℤ pf)) ≡ (low -ℤ ((tt +ℤ pt) -ℤ (tf +ℤ pf)))
    below = omega (arith, ints)

pub shifted_cost : ShiftedCost
unfolding links_cost
shifted_cost l t p =
    sum_ext l.count (λ i. l.price i * beyond (l.low i -ℤ rise l t i) (l.high i -ℤ rise l t i) (rise l p i)) (λ i. l.price i * beyond (l.low i) (l.high i) (rise l (plus t p) i))
    (λ i h. ap (λ (n : ℕ). l.price i * n) (beyond_shifted (l.low i) (l.high i) (t (l.to i)) (t (l.from i)) (p (l.to i)) (p (l.from i))))
