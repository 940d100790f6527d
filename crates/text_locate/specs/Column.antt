-- Columns of words.
use Rattle.std.specs.Prelude.{ℕ, suc, Bool, true, false, if◌then◌else◌, List, [], ◌∷◌}
use Rattle.text_words.specs.Pieces.{is_blank}

-- the columns at which words begin: bytes that are no blank, with a blank or nothing before them
unfoldable pub starts : (column : ℕ) (inside : Bool) → List ℕ → List ℕ
starts column inside [] = []
starts column inside (b ∷ bs) =
    if is_blank b then starts (suc column) false bs
    else (if inside then starts (suc column) true bs else column ∷ starts (suc column) true bs)
