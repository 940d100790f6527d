-- Nothing that is said is a float.
use Rattle.std.proofs.Common.{◌≡◌, ℕ, zero, suc, Bool, true, false, List, [], ◌∷◌, map, pred, ℤ, pos, negsuc, take, drop, refl}
use Rattle.phase_field.specs.Field.{Field}
use Rattle.serde_json.specs.Written.{has_float, items_have_float}
use Rattle.serde_json.specs.View.{items_of}
use Rattle.print_json.specs.Answer.{sign_list, answer_data}
use Rattle.print_json.specs.Rows.{number_data, row_list}

row_whole : (zs : List ℤ) → items_have_float (items_of (map number_data zs)) ≡ false
row_whole [] = refl
row_whole (pos n ∷ zs) = row_whole zs
row_whole (negsuc n ∷ zs) = row_whole zs

rows_whole : (w h : ℕ) (zs : List ℤ) → items_have_float (items_of (row_list w h zs)) ≡ false
unfolding row_list
rows_whole w zero zs = refl
rows_whole w (suc h) zs = rw (row_whole (take w zs)) (rows_whole w h (drop w zs))

signs_whole : (f : Field) (y n : ℕ) → items_have_float (items_of (sign_list f y n)) ≡ false
unfolding sign_list
signs_whole f y zero = refl
signs_whole f y (suc n) = signs_whole f (suc y) n

pub answer_whole : (f : Field) (zs : List ℤ) (n : ℕ) (squares : Bool) → has_float (answer_data f zs n squares) ≡ false
answer_whole f zs n true = rw (rows_whole f.wide f.high zs, signs_whole f 0 (pred f.high)) refl
answer_whole f zs n false = rw (rows_whole f.wide f.high zs) refl
