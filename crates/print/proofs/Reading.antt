-- Printed rows, read back.
use Rattle.std.proofs.Common.{◌≡◌, ℕ, suc, ◌+◌, ◌-◌, ◌*◌, ◌^◌, ◌<◌, ◌≤◌, Bool, true, false, cond, eqb, List, [], ◌∷◌, ◌++◌, map, length, ℤ, pos, negsuc, neg_ℤ, Some, Ok, decimal, Option, Result, sym, refl, ap, ◌∙◌, append_assoc, append-nil, arith, rules}
use lib.Signed.{mag}
use Rattle.std.specs.Option.{option_map}
use Rattle.std.specs.Int.{IsInRange}
use Rattle.std.specs.Char.{is_ascii_digit}
use Rattle.std.specs.Fmt.{signed_decimal}
use Rattle.std.specs.List.{AllByRecursion}
use Rattle.std.specs.Str.{all_ascii_digits}
use Rattle.std.proofs.lemmas.Fmt.{digits_decimal, digits_value-decimal, decimal_nonempty}
use Rattle.std.proofs.lemmas.Str.Parse.{IsNumeralModel, numerals_by_fold}
use Rattle.std.proofs.lemmas.Bool.{and_parts, ne_eqb}
use Rattle.std.proofs.lemmas.Bool.Decides.{nat_tests}
use Rattle.std.specs.Option.{option_and_then}
use Rattle.text_words.specs.Numeral.{digit, numeral_on, numeral, capped, largest, largest_entry}
use Rattle.text_words.specs.Pieces.{is_blank, onto, pieces, filled, words}
use Rattle.text_words.specs.declared.pieces.Mark.TheVariants.{Blank}
use Rattle.text_lines.specs.Flaw.{flaw_of, or_flaw, number_of, and_then}
use Rattle.text_lines.specs.declared.flaw.Flaw.{Flaw}
use Rattle.text.specs.Section.{row_onto}
use Rattle.print.specs.declared.rows.Parting.TheVariants.{Space}
use Rattle.print.specs.Rows.{more_text, row_text}
use Rattle.print.specs.Back.{signed_numeral, onto_row, signed_row, RowsReadBack, RowsReadAgain}

-- the number that digits make after a number
abbrev read_on : ℕ → List ℕ → ℕ
read_on n [] = n
read_on n (c ∷ cs) = read_on (10 * n + (c - 48)) cs

own : IsNumeralModel (λ ds. all_ascii_digits ds ≡ true) (read_on 0)
own = numerals_by_fold _ (search rules) read_on (search rules)

digit_in : (b : ℕ) → is_ascii_digit b ≡ true → IsInRange 48 57 b
digit_in b e = grind (arith, nat_tests)

digit_is : (b : ℕ) → IsInRange 48 57 b → digit b ≡ Some (b - 48)
digit_is b h = grind (arith, nat_tests, h.0, h.1)

on_digits : (n : ℕ) (ds : List ℕ) → all_ascii_digits ds ≡ true → numeral_on n ds ≡ Some (read_on n ds)
unfolding numeral_on
on_digits n [] e = refl
on_digits n (b ∷ bs) e =
    let p = and_parts (is_ascii_digit b) (all_ascii_digits bs) e in
    let q : n * 10 + (b - 48) ≡ 10 * n + (b - 48) = omega arith in
    ap (λ (o : Option ℕ). option_and_then (λ (d : ℕ). numeral_on (n * 10 + d) bs) o) (digit_is b (digit_in b p.0))
    ∙ ap (λ (k : ℕ). numeral_on k bs) q ∙ on_digits (10 * n + (b - 48)) bs p.1

numeral_digits : (ds : List ℕ) → 0 < length ds → all_ascii_digits ds ≡ true → numeral ds ≡ Some (read_on 0 ds)
unfolding numeral
numeral_digits [] l e = absurd (omega arith)
numeral_digits (b ∷ bs) l e = on_digits 0 (b ∷ bs) e

pub numeral_decimal : (n : ℕ) → n < 2 ^ 64 → numeral (decimal n) ≡ Some n
numeral_decimal n l = numeral_digits (decimal n) (decimal_nonempty n l) (digits_decimal own n l) ∙ ap (λ (k : ℕ). Some k) (digits_value-decimal own n l)

-- no byte parts words
abbrev Solid : List ℕ → Type 0
Solid w = AllByRecursion (λ b. is_blank b ≡ false) w

solid_digit : (b : ℕ) → IsInRange 48 57 b → is_blank b ≡ false
solid_digit b h = grind (arith, nat_tests, h.0, h.1)

solid_digits : (ds : List ℕ) → all_ascii_digits ds ≡ true → Solid ds
solid_digits [] e = tt
solid_digits (b ∷ bs) e =
    let p = and_parts (is_ascii_digit b) (all_ascii_digits bs) e in
    (solid_digit b (digit_in b p.0), solid_digits bs p.1)

solid_signed : (z : ℤ) → mag z < 2 ^ 63 → Solid (signed_decimal z)
solid_signed (pos n) l = solid_digits (decimal n) (digits_decimal own n (omega arith))
solid_signed (negsuc n) l = (refl, solid_digits (decimal (suc n)) (digits_decimal own (suc n) (omega arith)))

some_signed : (z : ℤ) → mag z < 2 ^ 63 → 0 < length (signed_decimal z)
some_signed (pos n) l = decimal_nonempty n (omega arith)
some_signed (negsuc n) l = omega arith

piece_then : (w rest : List ℕ) → Solid w → pieces Blank (w ++ (32 ∷ rest)) ≡ w ∷ pieces Blank rest
unfolding pieces
piece_then [] rest s = refl
piece_then (b ∷ w) rest s =
    ap (λ (t : Bool). cond t ([] ∷ pieces Blank (w ++ (32 ∷ rest))) (onto b (pieces Blank (w ++ (32 ∷ rest))))) s.0 ∙ ap (onto b) (piece_then w rest s.1)

piece_last : (w : List ℕ) → Solid w → 0 < length w → pieces Blank w ≡ w ∷ []
unfolding pieces
piece_last [] s l = absurd (omega arith)
piece_last (b ∷ []) s l = ap (λ (t : Bool). cond t ([] ∷ []) ((b ∷ []) ∷ [])) s.0
piece_last (b ∷ c ∷ w) s l =
    ap (λ (t : Bool). cond t ([] ∷ pieces Blank (c ∷ w)) (onto b (pieces Blank (c ∷ w)))) s.0 ∙ ap (onto b) (piece_last (c ∷ w) s.1 (omega arith))

row_pieces : (z : ℤ) (zs : List ℤ) → AllByRecursion (λ y. mag y < 2 ^ 63) (z ∷ zs) → pieces Blank (signed_decimal z ++ more_text Space zs) ≡ map signed_decimal (z ∷ zs)
unfolding more_text
row_pieces z [] h = ap (pieces Blank) (append-nil (signed_decimal z)) ∙ piece_last (signed_decimal z) (solid_signed z h.0) (some_signed z h.0)
row_pieces z (y ∷ ys) h = piece_then (signed_decimal z) (signed_decimal y ++ more_text Space ys) (solid_signed z h.0) ∙ ap (λ (ws : List (List ℕ)). signed_decimal z ∷ ws) (row_pieces y ys h.1)

filled_cons : (w : List ℕ) (ws : List (List ℕ)) → 0 < length w → filled (w ∷ ws) ≡ w ∷ filled ws
filled_cons [] ws l = absurd (omega arith)
filled_cons (b ∷ w) ws l = refl

filled_all : (zs : List ℤ) → AllByRecursion (λ y. mag y < 2 ^ 63) zs → filled (map signed_decimal zs) ≡ map signed_decimal zs
filled_all [] h = refl
filled_all (z ∷ zs) h = filled_cons (signed_decimal z) (map signed_decimal zs) (some_signed z h.0) ∙ ap (λ (ws : List (List ℕ)). signed_decimal z ∷ ws) (filled_all zs h.1)

pieces_nil : pieces Blank [] ≡ []
unfolding pieces
pieces_nil = refl

pub words_row : (zs : List ℤ) → AllByRecursion (λ y. mag y < 2 ^ 63) zs → words (row_text Space zs) ≡ map signed_decimal zs
words_row [] h = ap filled pieces_nil
words_row (z ∷ zs) h = ap filled (row_pieces z zs h) ∙ filled_all (z ∷ zs) h

-- digits don't begin with a minus sign
unsigned_first : (ds : List ℕ) → all_ascii_digits ds ≡ true → signed_numeral ds ≡ option_map pos (numeral ds)
unfolding numeral
unsigned_first [] e = refl
unsigned_first (b ∷ bs) e =
    let p = digit_in b (and_parts (is_ascii_digit b) (all_ascii_digits bs) e).0 in
    let q : eqb b 45 ≡ false = ne_eqb b 45 (λ k. omega (arith, p.0)) in
    ap (λ (t : Bool). cond t (option_map (λ n. neg_ℤ (pos n)) (numeral bs)) (option_map pos (numeral (b ∷ bs)))) q

signed_back : (z : ℤ) → mag z < 2 ^ 63 → signed_numeral (signed_decimal z) ≡ Some z
signed_back (pos n) l = unsigned_first (decimal n) (digits_decimal own n (omega arith)) ∙ ap (option_map pos) (numeral_decimal n (omega arith))
signed_back (negsuc n) l = ap (option_map (λ k. neg_ℤ (pos k))) (numeral_decimal (suc n) (omega arith))

row_back : (zs : List ℤ) → AllByRecursion (λ y. mag y < 2 ^ 63) zs → signed_row (map signed_decimal zs) ≡ Some zs
unfolding signed_row
row_back [] h = refl
row_back (z ∷ zs) h =
    ap (λ (o : Option ℤ). option_and_then (λ (k : ℤ). onto_row k (signed_row (map signed_decimal zs))) o) (signed_back z h.0) ∙ ap (onto_row z) (row_back zs h.1)

pub rows_read_back : RowsReadBack
rows_read_back zs h = ap signed_row (words_row zs h) ∙ row_back zs h

small : (ns : List ℕ) → AllByRecursion (λ n. n ≤ 4294967295) ns → AllByRecursion (λ y. mag y < 2 ^ 63) (map pos ns)
small [] h = tt
small (n ∷ ns) h = (omega (arith, h.0), small ns h.1)

number_again : (n : ℕ) → n ≤ 4294967295 → number_of (decimal n) ≡ Ok n
number_again n l =
    let c : capped largest n ≡ n = omega (arith, l) in
    ap (λ (o : Option ℕ). or_flaw (option_map (capped largest) o) (flaw_of (decimal n))) (numeral_decimal n (omega (arith, l))) ∙ ap (λ (k : ℕ). Ok k) c

row_again : (ms ns : List ℕ) → AllByRecursion (λ n. n ≤ 4294967295) ns → row_onto ms (map signed_decimal (map pos ns)) ≡ Ok (ms ++ ns)
unfolding row_onto
row_again ms [] h = ap (λ (x : List ℕ). Ok x) (sym (append-nil ms))
row_again ms (n ∷ ns) h =
    let c : capped largest_entry n ≡ n = omega (arith, h.0) in
    ap (λ (r : Result ℕ Flaw). and_then (λ (k : ℕ). row_onto (ms ++ (capped largest_entry k ∷ [])) (map signed_decimal (map pos ns))) r) (number_again n h.0)
    ∙ ap (λ (k : ℕ). row_onto (ms ++ (k ∷ [])) (map signed_decimal (map pos ns))) c ∙ row_again (ms ++ (n ∷ [])) ns h.1 ∙ ap (λ (x : List ℕ). Ok x) (append_assoc ms (n ∷ []) ns)

pub rows_read_again : RowsReadAgain
rows_read_again ns h = ap (row_onto []) (words_row (map pos ns) (small ns h)) ∙ row_again [] ns h
