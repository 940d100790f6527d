-- Rows, one after the other.
use Rattle.std.proofs.Common.{◌≡◌, ℕ, zero, suc, ◌+◌, ◌-◌, ◌<◌, List, [], ◌∷◌, ◌++◌, map, take, drop, ℤ, sym, refl, ap, ◌∙◌, append_assoc, append-nil, add-one, pred, arith}
use Rattle.std.proofs.lemmas.List.{map-append}
use Rattle.serde_json.specs.declared.value.Value.{Value}
use Rattle.phase_field.specs.Field.{Field}
use Rattle.print.specs.Signs.{sign_row}
use Rattle.print_json.specs.Answer.{sign_list}
use Rattle.serde_json.specs.Data.{Data, string}
use Rattle.serde_json.specs.View.{view}
use Rattle.print_json.specs.Rows.{row_data, row_list}

list_none : (w n : ℕ) (zs : List ℤ) → n ≡ 0 → row_list w n zs ≡ []
unfolding row_list
list_none w zero zs e = refl
list_none w (suc n) zs e = absurd (omega arith)

list_more : (w n m : ℕ) (zs : List ℤ) → n ≡ suc m → row_list w n zs ≡ row_data (take w zs) ∷ row_list w m (drop w zs)
unfolding row_list
list_more w zero m zs e = absurd (omega arith)
list_more w (suc n) m zs e = let same : n ≡ m = omega arith in ap (λ (k : ℕ). row_data (take w zs) ∷ row_list w k (drop w zs)) same

pub pushed : (new old : List Value) (v : Value) (d : Data) → new ≡ old ++ (v ∷ []) → view v ≡ d → map view new ≡ map view old ++ (d ∷ [])
pushed new old v d e q = ap (map view) e ∙ map-append view old (v ∷ []) ∙ ap (λ (x : Data). map view old ++ (x ∷ [])) q

pub rows_end : (w h y : ℕ) (done all : List Data) (rest : List ℤ) → h - y ≡ 0 → done ++ row_list w (h - y) rest ≡ all → done ≡ all
rows_end w h y done all rest e q = sym (append-nil done) ∙ ap (λ (x : List Data). done ++ x) (sym (list_none w (h - y) rest e)) ∙ q

pub rows_next : (w h y : ℕ) (done more all : List Data) (rest : List ℤ) → y < h → more ≡ done ++ (row_data (take w rest) ∷ []) → done ++ row_list w (h - y) rest ≡ all → more ++ row_list w (h - (y + 1)) (drop w rest) ≡ all
rows_next w h y done more all rest l p q =
    let left : h - y ≡ suc (h - (y + 1)) = omega arith in
    ap (λ (x : List Data). x ++ row_list w (h - (y + 1)) (drop w rest)) p
    ∙ append_assoc done (row_data (take w rest) ∷ []) (row_list w (h - (y + 1)) (drop w rest))
    ∙ ap (λ (x : List Data). done ++ x) (sym (list_more w (h - y) (h - (y + 1)) rest left)) ∙ q

signs_none : (f : Field) (y n : ℕ) → n ≡ 0 → sign_list f y n ≡ []
unfolding sign_list
signs_none f y zero e = refl
signs_none f y (suc n) e = absurd (omega arith)

signs_more : (f : Field) (y n m : ℕ) → n ≡ suc m → sign_list f y n ≡ string (sign_row f y 0 (pred f.wide)) ∷ sign_list f (suc y) m
unfolding sign_list
signs_more f y zero m e = absurd (omega arith)
signs_more f y (suc n) m e = let same : n ≡ m = omega arith in ap (λ (k : ℕ). string (sign_row f y 0 (pred f.wide)) ∷ sign_list f (suc y) k) same

pub signs_end : (f : Field) (h y : ℕ) (done all : List Data) → h - y ≡ 0 → done ++ sign_list f y (h - y) ≡ all → done ≡ all
signs_end f h y done all e q = sym (append-nil done) ∙ ap (λ (x : List Data). done ++ x) (sym (signs_none f y (h - y) e)) ∙ q

pub signs_next : (f : Field) (h y : ℕ) (done more all : List Data) → y < h → more ≡ done ++ (string (sign_row f y 0 (pred f.wide)) ∷ []) → done ++ sign_list f y (h - y) ≡ all → more ++ sign_list f (y + 1) (h - (y + 1)) ≡ all
signs_next f h y done more all l p q =
    let left : h - y ≡ suc (h - (y + 1)) = omega arith in
    ap (λ (k : ℕ). more ++ sign_list f k (h - (y + 1))) (add-one y)
    ∙ ap (λ (x : List Data). x ++ sign_list f (suc y) (h - (y + 1))) p
    ∙ append_assoc done (string (sign_row f y 0 (pred f.wide)) ∷ []) (sign_list f (suc y) (h - (y + 1)))
    ∙ ap (λ (x : List Data). done ++ x) (sym (signs_more f y (h - y) (h - (y + 1)) left)) ∙ q
