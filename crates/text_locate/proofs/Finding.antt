-- Lines, words and columns, one after the other.
use Rattle.std.proofs.Common.{◌≡◌, ℕ, zero, suc, not, ◌+◌, ◌-◌, ◌<◌, ◌≤◌, Bool, true, false, if◌then◌else◌, List, [], ◌∷◌, length, get_or, drop, Some, None, Option, sym, refl, ap, ◌∙◌, add-one, arith, nat_lt}
use Rattle.std.specs.List.{slice_get}
use Rattle.std.proofs.lemmas.List.{drop_more, drop_all}
use Rattle.text_words.specs.declared.pieces.Mark.TheVariants.{Blank}
use Rattle.text_words.specs.Pieces.{is_blank, parts, words}
use Rattle.text_locate.specs.Column.{starts}
use Rattle.text_locate.specs.Word.{cells_of, cell_from, is_wrong, wrong_from, is_said, said_from}
use Rattle.text_locate.specs.declared.word.Keyword.{Keyword}
use Rattle.text_locate.specs.declared.word.WordAt.{WordAt}

-- ---- columns

starts_nil : (c : ℕ) (i : Bool) → starts c i [] ≡ []
unfolding starts
starts_nil c i = refl

starts_cons : (c : ℕ) (i : Bool) (b : ℕ) (bs : List ℕ) → starts c i (b ∷ bs) ≡ (if is_blank b then starts (suc c) false bs else (if i then starts (suc c) true bs else c ∷ starts (suc c) true bs))
unfolding starts
starts_cons c i b bs = refl

starts_at : (l : List ℕ) (c : ℕ) (i : Bool) → c < length l
    → starts c i (drop c l) ≡ (if parts Blank (drop c l) then starts (c + 1) false (drop (c + 1) l) else (if i then starts (c + 1) true (drop (c + 1) l) else c ∷ starts (c + 1) true (drop (c + 1) l)))
starts_at l c i h = rw (drop_more l c 0 h, add-one c) (starts_cons c i (get_or l c 0) (drop (suc c) l))

pub column_ends : (l : List ℕ) (c k : ℕ) (i : Bool) (r : Option ℕ) → length l ≤ c → slice_get (starts c i (drop c l)) k ≡ r → None ≡ r
column_ends l c k i r h e = ap (λ (x : List ℕ). slice_get x k) (sym (starts_nil c i)) ∙ ap (λ (x : List ℕ). slice_get (starts c i x) k) (sym (drop_all c l h)) ∙ e

pub column_found : (l : List ℕ) (c k : ℕ) (i : Bool) (r : Option ℕ) → c < length l → parts Blank (drop c l) ≡ false → i ≡ false → k ≡ 0 → slice_get (starts c i (drop c l)) k ≡ r → Some c ≡ r
column_found l c k i r h b f z e = sym (rw (z, f) (at_start l c h b)) ∙ e
  where
    at_start : (l : List ℕ) (c : ℕ) → c < length l → parts Blank (drop c l) ≡ false → slice_get (starts c false (drop c l)) 0 ≡ Some c
    at_start l c h b = ap (λ (x : List ℕ). slice_get x 0) (starts_at l c false h ∙ ap (λ (t : Bool). if t then starts (c + 1) false (drop (c + 1) l) else c ∷ starts (c + 1) true (drop (c + 1) l)) b)

-- what is looked for from the next column on: `m` more words, within a word unless there is a blank
abbrev Next : List ℕ → ℕ → ℕ → Bool → Option ℕ → Type 0
Next l c m b r = slice_get (starts (c + 1) (not b) (drop (c + 1) l)) m ≡ r

next_started : (l : List ℕ) (c m : ℕ) (r : Option ℕ) → c < length l → parts Blank (drop c l) ≡ false → slice_get (starts c false (drop c l)) (suc m) ≡ r → Next l c m false r
next_started l c m r h b e =
    sym (ap (λ (x : List ℕ). slice_get x (suc m)) (starts_at l c false h ∙ ap (λ (t : Bool). if t then starts (c + 1) false (drop (c + 1) l) else c ∷ starts (c + 1) true (drop (c + 1) l)) b)) ∙ e

next_inside : (l : List ℕ) (c m : ℕ) (r : Option ℕ) → c < length l → parts Blank (drop c l) ≡ false → slice_get (starts c true (drop c l)) m ≡ r → Next l c m false r
next_inside l c m r h b e =
    sym (ap (λ (x : List ℕ). slice_get x m) (starts_at l c true h ∙ ap (λ (t : Bool). if t then starts (c + 1) false (drop (c + 1) l) else starts (c + 1) true (drop (c + 1) l)) b)) ∙ e

next_blank : (l : List ℕ) (c m : ℕ) (i : Bool) (r : Option ℕ) → c < length l → parts Blank (drop c l) ≡ true → slice_get (starts c i (drop c l)) m ≡ r → Next l c m true r
next_blank l c m i r h b e =
    sym (ap (λ (x : List ℕ). slice_get x m) (starts_at l c i h ∙ ap (λ (t : Bool). if t then starts (c + 1) false (drop (c + 1) l) else (if i then starts (c + 1) true (drop (c + 1) l) else c ∷ starts (c + 1) true (drop (c + 1) l))) b)) ∙ e

pub column_started : (l : List ℕ) (c k m : ℕ) (i b : Bool) (r : Option ℕ) → c < length l → b ≡ false → b ≡ parts Blank (drop c l) → i ≡ false → (k ≡ 0 → ⊥) → m ≡ k - 1 → slice_get (starts c i (drop c l)) k ≡ r → Next l c m b r
column_started l c zero m i b r h f p g z q e = absurd (z refl)
column_started l c (suc k) m i b r h f p g z q e = let n : m ≡ k = omega (arith, q) in rw (f, n) (next_started l c k r h (sym p ∙ f) (rw g at e))

pub column_inside : (l : List ℕ) (c k m : ℕ) (i b : Bool) (r : Option ℕ) → c < length l → b ≡ false → b ≡ parts Blank (drop c l) → i ≡ true → m ≡ k → slice_get (starts c i (drop c l)) k ≡ r → Next l c m b r
column_inside l c k m i b r h f p g q e = rw (f, q) (next_inside l c k r h (sym p ∙ f) (rw g at e))

pub column_blank : (l : List ℕ) (c k m : ℕ) (i b : Bool) (r : Option ℕ) → c < length l → b ≡ true → b ≡ parts Blank (drop c l) → m ≡ k → slice_get (starts c i (drop c l)) k ≡ r → Next l c m b r
column_blank l c k m i b r h f p q e = rw (f, q) (next_blank l c k i r h (sym p ∙ f) e)

-- ---- words

wrong_nil : (k : ℕ) → wrong_from k [] ≡ 0
unfolding wrong_from
wrong_nil k = refl

wrong_cons : (k : ℕ) (w : List ℕ) (ws : List (List ℕ)) → wrong_from k (w ∷ ws) ≡ (if is_wrong w k then k else wrong_from (suc k) ws)
unfolding wrong_from
wrong_cons k w ws = refl

pub wrong_ends : (k r : ℕ) (ws : List (List ℕ)) → ws ≡ [] → wrong_from k ws ≡ r → 0 ≡ r
wrong_ends k r ws e h = sym (wrong_nil k) ∙ ap (wrong_from k) (sym e) ∙ h

wrong_first : (k : ℕ) (ws vs : List (List ℕ)) (w : List ℕ) (t : Bool) → ws ≡ w ∷ vs → is_wrong w k ≡ t → wrong_from k ws ≡ (if t then k else wrong_from (suc k) vs)
wrong_first k ws vs w t e b = ap (wrong_from k) e ∙ wrong_cons k w vs ∙ ap (λ (x : Bool). if x then k else wrong_from (suc k) vs) b

pub wrong_found : (k r : ℕ) (ws vs : List (List ℕ)) (w : List ℕ) → ws ≡ w ∷ vs → is_wrong w k ≡ true → wrong_from k ws ≡ r → k ≡ r
wrong_found k r ws vs w e b h = sym (wrong_first k ws vs w true e b) ∙ h

pub wrong_more : (k r : ℕ) (ws vs : List (List ℕ)) (w : List ℕ) → ws ≡ w ∷ vs → is_wrong w k ≡ false → wrong_from k ws ≡ r → wrong_from (k + 1) vs ≡ r
wrong_more k r ws vs w e b h = ap (λ (n : ℕ). wrong_from n vs) (add-one k) ∙ sym (wrong_first k ws vs w false e b) ∙ h

-- ---- cells

cell_nil : (i n : ℕ) → cell_from i [] n ≡ None
unfolding cell_from
cell_nil i n = refl

cell_cons : (i n : ℕ) (l : List ℕ) (ls : List (List ℕ)) → cell_from i (l ∷ ls) n ≡ (if nat_lt n (cells_of (words l)) then Some (record { line = i; word = n }) else cell_from (suc i) ls (n - cells_of (words l)))
unfolding cell_from
cell_cons i n l ls = refl

pub cell_ends : (i n : ℕ) (ls : List (List ℕ)) (r : Option WordAt) → ls ≡ [] → cell_from i ls n ≡ r → None ≡ r
cell_ends i n ls r e h = sym (cell_nil i n) ∙ ap (λ (x : List (List ℕ)). cell_from i x n) (sym e) ∙ h

cell_first : (i n : ℕ) (ls ms : List (List ℕ)) (l : List ℕ) (t : Bool) → ls ≡ l ∷ ms → nat_lt n (cells_of (words l)) ≡ t → cell_from i ls n ≡ (if t then Some (record { line = i; word = n }) else cell_from (suc i) ms (n - cells_of (words l)))
cell_first i n ls ms l t e b =
    ap (λ (x : List (List ℕ)). cell_from i x n) e ∙ cell_cons i n l ms ∙ ap (λ (x : Bool). if x then Some (record { line = i; word = n }) else cell_from (suc i) ms (n - cells_of (words l))) b

pub cell_found : (i n : ℕ) (ls ms : List (List ℕ)) (l : List ℕ) (r : Option WordAt) → ls ≡ l ∷ ms → nat_lt n (cells_of (words l)) ≡ true → cell_from i ls n ≡ r → Some (record { line = i; word = n }) ≡ r
cell_found i n ls ms l r e b h = sym (cell_first i n ls ms l true e b) ∙ h

pub cell_more : (i n m : ℕ) (ls ms : List (List ℕ)) (l : List ℕ) (r : Option WordAt) → ls ≡ l ∷ ms → nat_lt n (cells_of (words l)) ≡ false → m ≡ n - cells_of (words l) → cell_from i ls n ≡ r → cell_from (i + 1) ms m ≡ r
cell_more i n m ls ms l r e b q h =
    ap (λ (k : ℕ). cell_from k ms m) (add-one i) ∙ ap (cell_from (suc i) ms) q ∙ sym (cell_first i n ls ms l false e b) ∙ h

-- ---- keywords

said_nil : (k : Keyword) (i : ℕ) → said_from k i [] ≡ None
unfolding said_from
said_nil k i = refl

said_cons : (k : Keyword) (i : ℕ) (l : List ℕ) (ls : List (List ℕ)) → said_from k i (l ∷ ls) ≡ (if is_said k (words l) then Some (record { line = i; word = 1 }) else said_from k (suc i) ls)
unfolding said_from
said_cons k i l ls = refl

pub said_ends : (k : Keyword) (i : ℕ) (ls : List (List ℕ)) (r : Option WordAt) → ls ≡ [] → said_from k i ls ≡ r → None ≡ r
said_ends k i ls r e h = sym (said_nil k i) ∙ ap (said_from k i) (sym e) ∙ h

said_first : (k : Keyword) (i : ℕ) (ls ms : List (List ℕ)) (l : List ℕ) (t : Bool) → ls ≡ l ∷ ms → is_said k (words l) ≡ t → said_from k i ls ≡ (if t then Some (record { line = i; word = 1 }) else said_from k (suc i) ms)
said_first k i ls ms l t e b = ap (said_from k i) e ∙ said_cons k i l ms ∙ ap (λ (x : Bool). if x then Some (record { line = i; word = 1 }) else said_from k (suc i) ms) b

pub said_found : (k : Keyword) (i : ℕ) (ls ms : List (List ℕ)) (l : List ℕ) (r : Option WordAt) → ls ≡ l ∷ ms → is_said k (words l) ≡ true → said_from k i ls ≡ r → Some (record { line = i; word = 1 }) ≡ r
said_found k i ls ms l r e b h = sym (said_first k i ls ms l true e b) ∙ h

pub said_more : (k : Keyword) (i : ℕ) (ls ms : List (List ℕ)) (l : List ℕ) (r : Option WordAt) → ls ≡ l ∷ ms → is_said k (words l) ≡ false → said_from k i ls ≡ r → said_from k (i + 1) ms ≡ r
said_more k i ls ms l r e b h = ap (λ (n : ℕ). said_from k n ms) (add-one i) ∙ sym (said_first k i ls ms l false e b) ∙ h
