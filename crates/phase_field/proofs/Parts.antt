-- Rows of a list that is kept row by row.
use Rattle.std.proofs.Common.{◌≡◌, ℕ, ◌+◌, ◌*◌, ◌<◌, ◌≤◌, List, length, get_or, ◌∙◌, mul_comm, add-mul, arith, rules}
use Rattle.std.specs.List.{between}
use Rattle.std.proofs.lemmas.List.Edits.{length-between, get_or-between}
use Rattle.std.proofs.lemmas.Nat.{mul-le}
use borrow.Rule.Slice.PartMut.{put_mid}
use Rattle.std.proofs.slice.Indexed.{places}
use Rattle.phase_field.specs.Model.{Part}

pub few_places : (w h : ℕ) → w ≤ 64 → h ≤ 64 → w * h ≤ 4096
few_places w h a b = mul-le w h 64 64 a b

-- a row after y others is among the places
pub row_ends : (w h y : ℕ) → y < h → y * w + w ≤ w * h
row_ends w h y l = omega (arith, add-mul y 1 w, mul-le (y + 1) w h w (omega arith) (omega arith), mul_comm w h)

-- and in the array
pub row_held : (w h y : ℕ) → w ≤ 64 → h ≤ 64 → y < h → y * w + w ≤ 4096
row_held w h y a b l = omega (arith, row_ends w h y l, few_places w h a b)

pub part_is : {A : Type 0} (from count : ℕ) (xs : List A) → from + count ≤ length xs → Part from count xs (between from (from + count) xs)
part_is from count xs l = record {
  long = length-between xs from (from + count) l ∙ omega arith;
  at = λ x d k. get_or-between xs from (from + count) x d (omega arith);
}

-- after a write to a part: what stands in it is what was written, and what stands before it is as it was
pub written_in : {A : Type 0} (a k x : ℕ) (xs ys : List A) (d : A) → a + k ≤ length xs → length ys ≡ k → x < k → get_or (put_mid a k xs ys) (a + x) d ≡ get_or ys x d
written_in a k x xs ys d l e h = search (rules, places)

pub written_before : {A : Type 0} (a k i : ℕ) (xs ys : List A) (d : A) → a + k ≤ length xs → i < a → get_or (put_mid a k xs ys) i d ≡ get_or xs i d
written_before a k i xs ys d l h = search (rules, places)
