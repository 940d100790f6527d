-- Rows as they are printed.
use Rattle.std.proofs.Common.{◌≡◌, ℕ, zero, suc, ◌+◌, ◌*◌, ◌<◌, ◌≤◌, List, [], ◌∷◌, ◌++◌, length, get_or, take, drop, ℤ, pos, sym, refl, ap, ◌∙◌, append_assoc, append-nil, add-one, zero-mul, suc-mul, arith}
use Rattle.std.specs.Fmt.{signed_decimal}
use Rattle.std.proofs.lemmas.List.{drop_more, drop_all, drop-drop}
use Rattle.print.specs.declared.rows.Parting.{Parting}
use Rattle.print.specs.Rows.{code_of, more_text, row_text, rows_text}

more_nil : (p : Parting) → more_text p [] ≡ []
unfolding more_text
more_nil p = refl

more_cons : (p : Parting) (z : ℤ) (zs : List ℤ) → more_text p (z ∷ zs) ≡ (code_of p ∷ signed_decimal z) ++ more_text p zs
unfolding more_text
more_cons p z zs = refl

pub more_ends : (p : Parting) (b e : List ℕ) (row : List ℤ) (i : ℕ) → length row ≤ i → b ++ more_text p (drop i row) ≡ e → b ≡ e
more_ends p b e row i l h = sym (append-nil b) ∙ ap (λ (x : List ℕ). b ++ x) (sym (more_nil p) ∙ ap (more_text p) (sym (drop_all i row l))) ∙ h

pub more_step : (p : Parting) (b after e : List ℕ) (row : List ℤ) (i : ℕ) → i < length row → after ≡ b ++ (code_of p ∷ signed_decimal (get_or row i (pos 0))) → b ++ more_text p (drop i row) ≡ e → after ++ more_text p (drop (i + 1) row) ≡ e
more_step p b after e row i l q h =
    ap (λ (x : List ℕ). x ++ more_text p (drop (i + 1) row)) q ∙ append_assoc b (code_of p ∷ signed_decimal (get_or row i (pos 0))) (more_text p (drop (i + 1) row))
    ∙ ap (λ (x : List ℕ). b ++ x) (sym (more_cons p (get_or row i (pos 0)) (drop (i + 1) row)) ∙ ap (more_text p) (sym (drop_more row i (pos 0) l))) ∙ h

rows_zero : (p : Parting) (w : ℕ) (zs : List ℤ) → rows_text p w 0 zs ≡ []
unfolding rows_text
rows_zero p w zs = refl

rows_suc : (p : Parting) (w h : ℕ) (zs : List ℤ) → rows_text p w (suc h) zs ≡ row_text p (take w zs) ++ (10 ∷ rows_text p w h (drop w zs))
unfolding rows_text
rows_suc p w h zs = refl

-- so many rows from the front, and one more
rows_last : (p : Parting) (w y : ℕ) (zs : List ℤ) → rows_text p w (suc y) zs ≡ rows_text p w y zs ++ (row_text p (take w (drop (y * w) zs)) ++ (10 ∷ []))
rows_last p w zero zs =
    rows_suc p w 0 zs ∙ ap (λ (x : List ℕ). row_text p (take w zs) ++ (10 ∷ x)) (rows_zero p w (drop w zs))
    ∙ sym (ap (λ (k : ℕ). row_text p (take w (drop k zs)) ++ (10 ∷ [])) (zero-mul w)) ∙ ap (λ (x : List ℕ). x ++ (row_text p (take w (drop (0 * w) zs)) ++ (10 ∷ []))) (sym (rows_zero p w zs))
rows_last p w (suc y) zs =
    let row : List ℤ → List ℕ = λ x. row_text p (take w x) ++ (10 ∷ []) in
    let sum : w + y * w ≡ suc y * w = rw suc-mul (omega arith) in
    let past : drop (y * w) (drop w zs) ≡ drop (suc y * w) zs = drop-drop (y * w) w zs ∙ ap (λ (k : ℕ). drop k zs) sum in
    rows_suc p w (suc y) zs
    ∙ ap (λ (x : List ℕ). row_text p (take w zs) ++ (10 ∷ x)) (rows_last p w y (drop w zs) ∙ ap (λ (x : List ℤ). rows_text p w y (drop w zs) ++ row x) past)
    ∙ sym (append_assoc (row_text p (take w zs)) (10 ∷ rows_text p w y (drop w zs)) (row (drop (suc y * w) zs)))
    ∙ ap (λ (x : List ℕ). x ++ row (drop (suc y * w) zs)) (sym (rows_suc p w y zs))

pub rows_none : (p : Parting) (b : List ℕ) (w : ℕ) (zs : List ℤ) → b ≡ b ++ rows_text p w 0 zs
rows_none p b w zs = sym (append-nil b) ∙ ap (λ (x : List ℕ). b ++ x) (sym (rows_zero p w zs))

pub drop_none : (w : ℕ) (zs : List ℤ) → zs ≡ drop (0 * w) zs
drop_none w zs = ap (λ (k : ℕ). drop k zs) (sym (zero-mul w))

pub rows_more : (p : Parting) (b m o after : List ℕ) (w y : ℕ) (zs rest row : List ℤ) → o ≡ b ++ rows_text p w y zs → rest ≡ drop (y * w) zs → row ≡ take w rest → m ≡ o ++ row_text p row → after ≡ m ++ (10 ∷ []) → after ≡ b ++ rows_text p w (y + 1) zs
rows_more p b m o after w y zs rest row d q r s t =
    t ∙ ap (λ (x : List ℕ). x ++ (10 ∷ [])) s ∙ append_assoc o (row_text p row) (10 ∷ [])
    ∙ ap (λ (x : List ℕ). x ++ (row_text p row ++ (10 ∷ []))) d ∙ append_assoc b (rows_text p w y zs) (row_text p row ++ (10 ∷ []))
    ∙ ap (λ (x : List ℕ). b ++ x)
    (ap (λ (x : List ℤ). rows_text p w y zs ++ (row_text p x ++ (10 ∷ []))) (r ∙ ap (take w) q) ∙ sym (rows_last p w y zs) ∙ ap (λ (k : ℕ). rows_text p w k zs) (sym (add-one y)))

pub rest_more : (w y : ℕ) (zs rest after : List ℤ) → rest ≡ drop (y * w) zs → after ≡ drop w rest → after ≡ drop ((y + 1) * w) zs
rest_more w y zs rest after q r =
    let past : y * w + w ≡ (y + 1) * w = rw add-one (rw suc-mul (omega arith)) in
    r ∙ ap (drop w) q ∙ drop-drop w (y * w) zs ∙ ap (λ (k : ℕ). drop k zs) past
