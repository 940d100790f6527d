-- What digits make of a number so far.
use Rattle.std.proofs.Common.{◌≡◌, ℕ, ◌+◌, ◌*◌, ◌<◌, ◌≤◌, List, [], ◌∷◌, length, get_or, drop, Some, None, Option, sym, refl, ap, ◌∙◌, arith}
use Rattle.std.specs.Option.{option_map}
use Rattle.std.proofs.lemmas.List.{drop_more, drop_all}
use Rattle.std.specs.Option.{option_and_then}
use Rattle.text_words.specs.Numeral.{digit, numeral_on, numeral, capped}

abbrev top : ℕ
top = 18446744073709551615

abbrev cap : Option ℕ → Option ℕ
cap o = option_map (capped 18446744073709551615) o

pub numeral_none : (w : List ℕ) → length w ≡ 0 → None ≡ cap (numeral w)
unfolding numeral
numeral_none [] e = refl
numeral_none (b ∷ bs) e = absurd (omega arith)

pub numeral_some : (w : List ℕ) → 0 < length w → numeral w ≡ numeral_on 0 w
unfolding numeral
numeral_some [] h = absurd (omega arith)
numeral_some (b ∷ bs) h = refl

on_digit : (n b d : ℕ) (bs : List ℕ) → digit b ≡ Some d → numeral_on n (b ∷ bs) ≡ numeral_on (n * 10 + d) bs
unfolding numeral_on
on_digit n b d bs e = ap (λ (o : Option ℕ). option_and_then (λ (k : ℕ). numeral_on (n * 10 + k) bs) o) e

on_other : (n b : ℕ) (bs : List ℕ) → digit b ≡ None → numeral_on n (b ∷ bs) ≡ None
unfolding numeral_on
on_other n b bs e = ap (λ (o : Option ℕ). option_and_then (λ (k : ℕ). numeral_on (n * 10 + k) bs) o) e

on_end : (n : ℕ) → numeral_on n [] ≡ Some n
unfolding numeral_on
on_end n = refl

capped_more : (m n d : ℕ) → capped top m ≡ capped top n → capped top (m * 10 + d) ≡ capped top (n * 10 + d)
capped_more m n d e = omega arith

then_cap : (o : Option ℕ) (f g : ℕ → Option ℕ) → ((d : ℕ) → cap (f d) ≡ cap (g d)) → cap (option_and_then f o) ≡ cap (option_and_then g o)
then_cap None f g h = refl
then_cap (Some d) f g h = h d

-- what is too large stays too large
cap_on : (m n : ℕ) (bs : List ℕ) → capped top m ≡ capped top n → cap (numeral_on m bs) ≡ cap (numeral_on n bs)
unfolding numeral_on
cap_on m n [] e = ap Some e
cap_on m n (b ∷ bs) e = then_cap (digit b) (λ d. numeral_on (m * 10 + d) bs) (λ d. numeral_on (n * 10 + d) bs) (λ d. cap_on (m * 10 + d) (n * 10 + d) bs (capped_more m n d e))

pub numeral_more : (w : List ℕ) (i n d r : ℕ) (x : Option ℕ) → i < length w → Some d ≡ digit (get_or w i 0) → r ≡ capped top (n * 10 + d) → cap (numeral_on n (drop i w)) ≡ x → cap (numeral_on r (drop (i + 1) w)) ≡ x
numeral_more w i n d r x l e q h =
    cap_on r (n * 10 + d) (drop (i + 1) w) (omega arith) ∙ ap cap (sym (on_digit n (get_or w i 0) d (drop (i + 1) w) (sym e)) ∙ ap (numeral_on n) (sym (drop_more w i 0 l))) ∙ h

pub numeral_stops : (w : List ℕ) (i n : ℕ) → i < length w → None ≡ digit (get_or w i 0) → cap (numeral_on n (drop i w)) ≡ cap (numeral_on 0 w) → None ≡ cap (numeral w)
numeral_stops w i n l e h =
    ap cap (sym (on_other n (get_or w i 0) (drop (i + 1) w) (sym e)) ∙ ap (numeral_on n) (sym (drop_more w i 0 l))) ∙ h ∙ ap cap (sym (numeral_some w (omega arith)))

pub numeral_ends : (w : List ℕ) (i n : ℕ) → 0 < length w → length w ≤ i → n ≤ top → cap (numeral_on n (drop i w)) ≡ cap (numeral_on 0 w) → Some n ≡ cap (numeral w)
numeral_ends w i n s l f h =
    let e : n ≡ capped top n = omega arith in
    ap Some e ∙ ap cap (sym (on_end n) ∙ ap (numeral_on n) (sym (drop_all i w l))) ∙ h ∙ ap cap (sym (numeral_some w s))
