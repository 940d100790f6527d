-- One edge, over plain numbers.
use Rattle.std.proofs.Common.{◌≡◌, ℕ, zero, suc, ◌*◌, ◌⊎◌, ℤ, pos, negsuc, ◌+ℤ◌, ◌-ℤ◌, ◌*ℤ◌, neg_ℤ, nat_abs, ◌≤ℤ◌, ◌<ℤ◌, sym, refl, ap, ◌∙◌, inl, inr, Bool, true, false, mul-zero, arith}
use lib.Signed.{lt_z}
use Rattle.std.proofs.lemmas.Int.{ints}
use Rattle.net_cells.specs.Net.{Tight, unit}
use Rattle.net_cells.specs.Moves.{Fits}

pub cases_lt_ℤ : (a b : ℤ) → (a <ℤ b) ⊎ (b ≤ℤ a)
cases_lt_ℤ a b = by (lt_z a b) refl
  where
    by : (t : Bool) → lt_z a b ≡ t → (a <ℤ b) ⊎ (b ≤ℤ a)
    by true e = inl (omega (arith, ints))
    by false e = inr (omega (arith, ints))

-- both ways cost nothing or more
pub reduced_least : (price : ℕ) (z s t : ℤ) → Tight price z (t -ℤ s) → pos 0 ≤ℤ ((unit price z +ℤ s) -ℤ t)
reduced_least price (pos m) s t e = omega (arith, ints, e.small)
reduced_least price (negsuc m) s t e = omega (arith, ints, e.against (omega (arith, ints)))

pub reduced_back_least : (price : ℕ) (z s t : ℤ) → Tight price z (t -ℤ s) → pos 0 ≤ℤ ((unit price (neg_ℤ z) +ℤ t) -ℤ s)
reduced_back_least price (pos zero) s t e = omega (arith, ints, e.small)
reduced_back_least price (pos (suc m)) s t e = omega (arith, ints, e.along (omega (arith, ints)))
reduced_back_least price (negsuc m) s t e = omega (arith, ints, e.small)

-- and the other way round
pub from_reduced : (price : ℕ) (z s t : ℤ) → pos 0 ≤ℤ ((unit price z +ℤ s) -ℤ t) → pos 0 ≤ℤ ((unit price (neg_ℤ z) +ℤ t) -ℤ s) → Tight price z (t -ℤ s)
from_reduced price (pos zero) s t a b =
    record { small = omega (arith, ints); along = λ h. absurd (omega (arith, ints)); against = λ h. absurd (omega (arith, ints)) }
from_reduced price (pos (suc m)) s t a b =
    record { small = omega (arith, ints); along = λ h. omega (arith, ints); against = λ h. absurd (omega (arith, ints)) }
from_reduced price (negsuc m) s t a b =
    record { small = omega (arith, ints); along = λ h. absurd (omega (arith, ints)); against = λ h. omega (arith, ints) }

pub tight_mirrored : (price : ℕ) (z d z' d' : ℤ) → z' ≡ neg_ℤ z → d' ≡ neg_ℤ d → Tight price z d → Tight price z' d'
tight_mirrored price z d z' d' p q e =
    record {
      small = omega (arith, ints, e.small);
      along = λ h. omega (arith, ints, e.against (omega (arith, ints)));
      against = λ h. omega (arith, ints, e.along (omega (arith, ints)));
    }

-- a label capped by the bound
pub record Capped (l b m : ℤ) : Type 0 where
  pub near : l <ℤ b → m ≡ l
  pub beyond : b ≤ℤ l → m ≡ b

pub capped_le : (l k b m o r : ℤ) → pos 0 ≤ℤ r → Capped l b m → Capped k b o → (l <ℤ b → (k ≤ℤ (l +ℤ r)) ⊎ (b ≤ℤ (l +ℤ r))) → o ≤ℤ (m +ℤ r)
capped_le l k b m o r p c d h = elim (cases_lt_ℤ l b) [
  | inl i ↦ below i (h i)
  | inr i ↦ above i
]
  where
    least : o ≤ℤ b
    least = elim (cases_lt_ℤ k b) [ inl j ↦ omega (arith, ints, d.near j) | inr j ↦ omega (arith, ints, d.beyond j) ]

    at_most : o ≤ℤ k
    at_most = elim (cases_lt_ℤ k b) [ inl j ↦ omega (arith, ints, d.near j) | inr j ↦ omega (arith, ints, d.beyond j) ]

    below : l <ℤ b → (k ≤ℤ (l +ℤ r)) ⊎ (b ≤ℤ (l +ℤ r)) → o ≤ℤ (m +ℤ r)
    below i (inl j) = omega (arith, ints, c.near i, at_most)
    below i (inr j) = omega (arith, ints, c.near i, least)

    above : b ≤ℤ l → o ≤ℤ (m +ℤ r)
    above i = omega (arith, ints, c.beyond i, least)

-- lowered by capped labels an edge stays tight: m and o at its ends
pub lowered_tight : (price : ℕ) (z s t s' t' b m o : ℤ) → s' ≡ (s +ℤ m) -ℤ b → t' ≡ (t +ℤ o) -ℤ b →
    o ≤ℤ (m +ℤ ((unit price z +ℤ s) -ℤ t)) → m ≤ℤ (o +ℤ ((unit price (neg_ℤ z) +ℤ t) -ℤ s)) → Tight price z (t' -ℤ s')
lowered_tight price z s t s' t' b m o p q i j =
    from_reduced price z s' t' (omega (arith, ints)) (omega (arith, ints))

-- a goes along a tight edge
pub moved_tight : (price : ℕ) (a z s t : ℤ) → Fits a z → (unit price z +ℤ s) -ℤ t ≡ pos 0 → Tight price z (t -ℤ s) → Tight price (z +ℤ a) (t -ℤ s)
moved_tight price a (pos m) s t f r e =
    record { small = e.small; along = λ h. omega (arith, ints); against = λ h. absurd (omega (arith, ints)) }
moved_tight price a (negsuc m) s t f r e =
    record { small = e.small; along = λ h. absurd (omega (arith, ints, f.0, f.1)); against = λ h. omega (arith, ints) }

-- what a unit more costs is the price, or minus it
pub unit_price : (price : ℕ) (z : ℤ) → nat_abs (unit price z) ≡ price
unit_price price (pos n) = omega (arith, ints)
unit_price price (negsuc n) = omega (arith, ints)
