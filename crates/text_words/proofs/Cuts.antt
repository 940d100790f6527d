-- The first piece of a text.
use Rattle.std.proofs.Common.{◌≡◌, ℕ, zero, suc, ◌<◌, ◌≤◌, Bool, true, false, if◌then◌else◌, List, [], ◌∷◌, length, take, drop, sym, refl, ap, ◌∙◌, arith, length-drop}
use Rattle.text_words.specs.declared.pieces.Mark.{Mark}
use Rattle.text_words.specs.declared.pieces.Mark.TheVariants.{Blank}
use Rattle.text_words.specs.Pieces.{parts, onto, pieces, filled, words, unmarked}
use Rattle.std.specs.Str.{bytes_eq}

pub pieces_first : (m : Mark) (bs : List ℕ) (k : ℕ) → 0 < length bs → k ≤ length bs → ((j : ℕ) → j < k → parts m (drop j bs) ≡ false) → (k < length bs → parts m (drop k bs) ≡ true) → pieces m bs ≡ take k bs ∷ pieces m (drop (suc k) bs)
unfolding pieces
pieces_first m [] k s l b f = absurd (omega arith)
pieces_first m (x ∷ bs) zero s l b f = rw (f (omega arith))
pieces_first m (x ∷ []) (suc zero) s l b f = rw (b 0 (omega arith))
pieces_first m (x ∷ []) (suc (suc k)) s l b f = absurd (omega arith)
pieces_first m (x ∷ y ∷ bs) (suc k) s l b f =
    rw (b 0 (omega arith)) (ap (onto x) (pieces_first m (y ∷ bs) k (omega arith) (omega arith) (λ j h. b (suc j) (omega arith)) (λ h. f (omega arith))))

pub pieces_none : (m : Mark) (bs : List ℕ) → length bs ≡ 0 → pieces m bs ≡ []
unfolding pieces
pieces_none m [] e = refl
pieces_none m (b ∷ bs) e = absurd (omega arith)

pub words_none : (bs ls : List ℕ) → length bs ≡ 0 → words bs ≡ words ls → words ls ≡ []
words_none bs ls e h = sym h ∙ ap filled (pieces_none _ bs e)

length_onto : (x : ℕ) (ps : List (List ℕ)) (n : ℕ) → length ps ≤ n → length (onto x ps) ≤ suc n
length_onto x [] n l = omega arith
length_onto x (p ∷ ps) n l = omega arith

-- a text has no more pieces than bytes
pub length_pieces : (m : Mark) (bs : List ℕ) → length (pieces m bs) ≤ length bs
unfolding pieces
length_pieces m [] = omega arith
length_pieces m (b ∷ bs) = by (parts m (b ∷ bs)) (length_pieces m bs)
  where
    by : (t : Bool) → length (pieces m bs) ≤ length bs → length (if t then ([] ∷ pieces m bs) else onto b (pieces m bs)) ≤ suc (length bs)
    by true l = omega arith
    by false l = length_onto b (pieces m bs) (length bs) l

-- nor more without its mark
pub length_unmarked : (bs : List ℕ) → length (unmarked bs) ≤ length bs
length_unmarked bs = by (bytes_eq (take 3 bs) (239 ∷ 187 ∷ 191 ∷ []))
  where
    by : (t : Bool) → length (if t then drop 3 bs else bs) ≤ length bs
    by true = omega (arith, length-drop 3 bs)
    by false = omega arith

length_filled : (ps : List (List ℕ)) → length (filled ps) ≤ length ps
length_filled [] = omega arith
length_filled ([] ∷ ps) = omega (arith, length_filled ps)
length_filled ((b ∷ p) ∷ ps) = omega (arith, length_filled ps)

-- nor has a line more words than bytes
pub length_words : (bs : List ℕ) → length (words bs) ≤ length bs
length_words bs = omega (arith, length_filled (pieces Blank bs), length_pieces Blank bs)
