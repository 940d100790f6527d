-- What links cost fits 128 bits.
use Rattle.std.proofs.Common.{◌≡◌, ℕ, ◌*◌, ◌^◌, ◌<◌, ◌≤◌, List, length, ℤ, refl, ap, ◌∙◌, mul-le-mul_left, arith}
use borrow.Author.Differences.{up}
use Rattle.std.proofs.lemmas.Nat.{mul-le}
use Rattle.sums.proofs.Sum.{member_le_sum, sum_longer}
use Rattle.sums.specs.Sum.{sum_to}
use Rattle.net_build.specs.declared.edge.Edge.{Edge}
use Rattle.net_links_flow.specs.Network.{FitLinks}
use Rattle.net_links.specs.Links.{Links, Numbers, beyond, rise, links_cost}
use Rattle.net_links_solve.specs.Link.{links_of}

pub product_fits : (p b : ℕ) → p ≤ 2 ^ 59 → b ≤ 2 ^ 66 → p * b ≤ 2 ^ 125
product_fits p b h k = mul-le p b (2 ^ 59) (2 ^ 66) h k

pub price_fits : (es : List Edge) (n : ℕ) → FitLinks (links_of es) n → (i : ℕ) → i < length es → (links_of es).price i ≤ 2 ^ 59
price_fits es n fit i h = omega (arith, member_le_sum (length es) i (links_of es).price h, fit.priced)

-- the first so many links
pub sum_fits : (es : List Edge) (n : ℕ) → FitLinks (links_of es) n → (i : ℕ) → i ≤ length es → sum_to i (links_of es).price ≤ 2 ^ 59
sum_fits es n fit i h = omega (arith, sum_longer i (length es) (links_of es).price h, fit.priced)

-- what link i costs
abbrev pub link_costs : Links → Numbers → ℕ → ℕ
link_costs l v i = l.price i * beyond (l.low i) (l.high i) (rise l v i)

pub all_links_cost : (l : Links) (v : Numbers) (s i : ℕ) → i ≡ l.count → s ≡ sum_to i (link_costs l v) → s ≡ links_cost l v
unfolding links_cost
all_links_cost l v s i e h = h ∙ ap (λ (n : ℕ). sum_to n (link_costs l v)) e

pub same_cost : (p low low' high high' r r' : ℤ) (k b : ℕ) → k ≡ up p → b ≡ beyond low high r → low ≡ low' → high ≡ high' → r ≡ r' → k * b ≡ up p * beyond low' high' r'
same_cost p low low' high high' r r' k b e f g h i = rw e (rw f (rw g (rw h (rw i refl))))

pub less_cost : (p k b : ℕ) → k ≡ p → b ≤ 2 ^ 66 → k * b ≤ p * 2 ^ 66
less_cost p k b e h = rw e (mul-le-mul_left p h)
