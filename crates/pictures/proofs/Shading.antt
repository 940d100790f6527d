-- Shades of numbers.
use Rattle.std.proofs.Common.{◌≡◌, ◌⊎◌, ◌↔◌, inl, inr, subst, Option, Some, None, ℕ, zero, suc, ◌*◌, ◌/◌, ◌<◌, ◌≤◌, Bool, true, false, cond, eqb, leb, List, [], length, get_or, ℤ, pos, ◌-ℤ◌, nat_abs, ◌≤ℤ◌, sym, refl, ap, ◌∙◌, div-mul-le_self, arith}
use Rattle.std.specs.Option.{unwrap_or, IsNone, IfSome}
use Rattle.std.specs.List.{Contains, All}
use Rattle.std.proofs.lemmas.List.Elements.{All-contains, Contains-get_or}
use Rattle.std.proofs.ByRecursion.{All-get_or, folded_min_z_bounds}
use Rattle.std.proofs.lemmas.Nat.{div_below, le-div}
use Rattle.std.proofs.lemmas.Int.{ints, fold-int_min_bounds, fold-int_min_reached, fold-int_max_bounds, fold-int_max_reached}
use Rattle.std.proofs.lemmas.Bool.{eqb-false, leb-true, leb-false}
use Rattle.pictures.specs.Picture.{scaled, shade, least, greatest, NeverDarker}

filled : (zs : List ℤ) (r : ℤ) → Contains zs r → 0 < length zs
filled zs r (k, l, e) = omega arith

one_of : (zs : List ℤ) (first r : ℤ) (P : ℤ → Type 0) → Contains zs first → (r ≡ first) ⊎ Contains zs r → All P zs → P r
one_of zs first r P c (inl e) a = subst P (sym e) (All-contains P zs first a c)
one_of zs first r P c (inr h) a = All-contains P zs r a h

-- r is one of the numbers, and none is less, or there are none
pub least_is : (zs : List ℤ) (o : Option ℤ) → (IsNone o ↔ (zs ≡ [])) → IfSome o (Contains zs) → IfSome o (λ r. All (λ z. r ≤ℤ z) zs) → unwrap_or o (pos 0) ≡ least zs
least_is zs None n c a = sym (ap least (n.0 refl))
least_is zs (Some r) n c a =
    let low = least zs in
    let first : Contains zs (get_or zs 0 (pos 0)) = Contains-get_or zs 0 (pos 0) (filled zs r c) in
    let bounds = fold-int_min_bounds (get_or zs 0 (pos 0)) zs low refl in
    let under : r ≤ℤ low = one_of zs (get_or zs 0 (pos 0)) low (λ z. r ≤ℤ z) first (fold-int_min_reached (get_or zs 0 (pos 0)) zs low refl) a in
    let over : low ≤ℤ r = All-contains (λ z. low ≤ℤ z) zs r bounds.1 c in
    omega (arith, ints)

-- the same of the greatest
pub greatest_is : (zs : List ℤ) (o : Option ℤ) → (IsNone o ↔ (zs ≡ [])) → IfSome o (Contains zs) → IfSome o (λ r. All (λ z. z ≤ℤ r) zs) → unwrap_or o (pos 0) ≡ greatest zs
greatest_is zs None n c a = sym (ap greatest (n.0 refl))
greatest_is zs (Some r) n c a =
    let high = greatest zs in
    let first : Contains zs (get_or zs 0 (pos 0)) = Contains-get_or zs 0 (pos 0) (filled zs r c) in
    let bounds = fold-int_max_bounds (get_or zs 0 (pos 0)) zs high refl in
    let over : high ≤ℤ r = one_of zs (get_or zs 0 (pos 0)) high (λ z. z ≤ℤ r) first (fold-int_max_reached (get_or zs 0 (pos 0)) zs high refl) a in
    let under : r ≤ℤ high = All-contains (λ z. z ≤ℤ high) zs r bounds.1 c in
    omega (arith, ints)

div_mono : (a b k : ℕ) → 0 < k → a ≤ b → a / k ≤ b / k
div_mono a b k h l = le-div (a / k) b k h (omega (arith, div-mul-le_self a k))

below_255 : (a s : ℕ) → 0 < s → a < s → a * 255 / s ≤ 255
below_255 a s h l = omega (arith, div_below (a * 255) s 255 h (omega arith))

by_ends : (a b s : ℕ) → 0 < s → a ≤ b → (p q : Bool) → leb s a ≡ p → leb s b ≡ q → cond p 255 (a * 255 / s) ≤ cond q 255 (b * 255 / s)
by_ends a b s h l true true e f = omega arith
by_ends a b s h l true false e f = absurd (omega (arith, leb-true s a e, leb-false s b f))
by_ends a b s h l false true e f = below_255 a s h (leb-false s a e)
by_ends a b s h l false false e f = div_mono (a * 255) (b * 255) s h (omega arith)

by_end : (b s : ℕ) → 0 < s → (q : Bool) → leb s b ≡ q → cond q 255 (b * 255 / s) ≤ 255
by_end b s h true f = omega arith
by_end b s h false f = below_255 b s h (leb-false s b f)

not_zero : (s : ℕ) → eqb s 0 ≡ false → 0 < s
not_zero zero e = absurd (eqb-false 0 0 e refl)
not_zero (suc s) e = omega arith

scaled_mono : (a b s : ℕ) → a ≤ b → scaled a s ≤ scaled b s
scaled_mono a b s l = by (eqb s 0) refl
  where
    by : (x : Bool) → eqb s 0 ≡ x → cond x 0 (cond (leb s a) 255 (a * 255 / s)) ≤ cond x 0 (cond (leb s b) 255 (b * 255 / s))
    by true e = omega arith
    by false e = by_ends a b s (not_zero s e) l (leb s a) (leb s b) refl refl

scaled_most : (b s : ℕ) → scaled b s ≤ 255
scaled_most b s = by (eqb s 0) refl
  where
    by : (x : Bool) → eqb s 0 ≡ x → cond x 0 (cond (leb s b) 255 (b * 255 / s)) ≤ 255
    by true e = omega arith
    by false e = by_end b s (not_zero s e) (leb s b) refl

farther : (low y z : ℤ) → low ≤ℤ y → y ≤ℤ z → nat_abs (y -ℤ low) ≤ nat_abs (z -ℤ low)
farther low y z a b = omega (arith, ints)

pub never_darker : NeverDarker
unfolding shade
never_darker zs i j l m h =
    let b = (folded_min_z_bounds (get_or zs 0 (pos 0)) zs (least zs) refl).1 in
    let s = nat_abs (greatest zs -ℤ least zs) in (
      scaled_mono (nat_abs (get_or zs i (pos 0) -ℤ least zs)) (nat_abs (get_or zs j (pos 0) -ℤ least zs)) s (farther (least zs) (get_or zs i (pos 0)) (get_or zs j (pos 0)) (All-get_or (λ x. least zs ≤ℤ x) zs i (pos 0) l b) h),
      scaled_most (nat_abs (get_or zs j (pos 0) -ℤ least zs)) s,
    )

pub shade_is : (low high z : ℤ) (p s r : ℕ) → p ≡ nat_abs (z -ℤ low) → s ≡ nat_abs (high -ℤ low) → r ≡ scaled p s → r ≡ shade low high z
unfolding shade
shade_is low high z p s r a b e = e ∙ ap (λ (x : ℕ). scaled x s) a ∙ ap (scaled (nat_abs (z -ℤ low))) b
