-- Lines and words: the pieces of a text between marks.
use Rattle.std.specs.Prelude.{◌≡◌, ℕ, ◌<◌, Bool, true, false, if◌then◌else◌, ◌||◌, ◌&&◌, List, [], ◌∷◌, length, take, drop, Some, None, Option, ◌==◌}
use Rattle.std.specs.Borrow.{Bor}
use Rattle.std.specs.Str.{bytes_eq}
use Rattle.text_words.specs.declared.pieces.Mark.{Mark}
use Rattle.text_words.specs.declared.pieces.Mark.TheVariants.{Newline, Blank}

-- no newline follows
abbrev pub alone : List ℕ → Bool
alone [] = true
alone (b ∷ bs) = if b == 10 then false else true

-- a space, a tab or a carriage return
abbrev pub is_blank : ℕ → Bool
is_blank b = b == 32 || (b == 9 || b == 13)

-- the first byte of what is left of a text parts two pieces: a newline, or a carriage return that no newline follows; or a blank
abbrev pub parts : Mark → List ℕ → Bool
parts m [] = false
parts Newline (b ∷ bs) = b == 10 || (b == 13 && alone bs)
parts Blank (b ∷ bs) = is_blank b

-- one byte more in front of the first piece
abbrev pub onto : ℕ → List (List ℕ) → List (List ℕ)
onto b [] = (b ∷ []) ∷ []
onto b (p ∷ ps) = (b ∷ p) ∷ ps

-- a text is cut at each byte that parts; what ends with one has no piece after it
unfoldable pub pieces : Mark → List ℕ → List (List ℕ)
pieces m [] = []
pieces m (b ∷ bs) = if parts m (b ∷ bs) then ([] ∷ pieces m bs) else onto b (pieces m bs)

abbrev pub filled : List (List ℕ) → List (List ℕ)
filled [] = []
filled ([] ∷ ps) = filled ps
filled ((b ∷ p) ∷ ps) = (b ∷ p) ∷ filled ps

-- a text without the byte order mark that it may begin with
abbrev pub unmarked : List ℕ → List ℕ
unmarked bs = if bytes_eq (take 3 bs) (239 ∷ 187 ∷ 191 ∷ []) then drop 3 bs else bs

abbrev pub lines : List ℕ → List (List ℕ)
lines bs = pieces Newline bs

-- the pieces between blanks that hold something
abbrev pub words : List ℕ → List (List ℕ)
words bs = filled (pieces Blank bs)

-- r is the first piece of what `cut` makes of a text, with the rest of the text, or None where there is no piece
abbrev pub First : (List ℕ → List (List ℕ)) → List ℕ → Option (Bor (List ℕ) × Bor (List ℕ)) → Type 0
First cut bs None = cut bs ≡ []
First cut bs (Some (p, rest)) = (cut bs ≡ p.now ∷ cut rest.now) × (length rest.now < length bs)
