-- Rows and rooms that follow steps, as loops write them.
use Rattle.std.proofs.Common.{◌≡◌, ℕ, zero, suc, ◌+◌, ◌*◌, ◌/◌, ◌%◌, ◌^◌, ◌<◌, ◌≤◌, List, length, get_or, set, ℤ, pos, ◌+ℤ◌, nat_abs, sym, ap, ◌∙◌, subst, ⊎_elim, add-zero, mul_comm, arith, get_or-set_other, get_or-set_same}
use Rattle.std.proofs.lemmas.Int.{ints}
use Rattle.std.proofs.lemmas.Bool.{cases_eq, cases_lt}
use Rattle.std.proofs.lemmas.List.{get_or_past}
use Rattle.sums.specs.Sum.{sum_ℤ}
use Rattle.sums.proofs.Sum.{sum_ℤ_ext}
use Rattle.sums.proofs.Loop.{sum_ℤ_none, sum_ℤ_more}
use Rattle.std.proofs.lemmas.Nat.{mul-add-lt, mul-le, div_below, mod_below}
use borrow.Rule.Slice.PartMut.{put_mid}
use Rattle.phase_field.specs.Field.{turns_in}
use Rattle.phase_field.specs.Model.{Row}
use Rattle.phase_field.proofs.Parts.{row_ends, written_in, written_before}
use Rattle.phase_cost.specs.Steps.{integral}
use Rattle.phase_cost.proofs.Integral.{integral_first}
use Rattle.phase_turns.specs.Follow.{StepsFew, AllWithin, StepsWithin, Follows, Integrated}

-- the first numbers of a row are written, and this comes next
pub record Following (start : ℤ) (ds us : List ℤ) (x : ℕ) (next : ℤ) : Type 0 where
  pub is : next ≡ start +ℤ sum_ℤ x (λ i. get_or ds i (pos 0))
  pub small : nat_abs next ≤ 2 ^ 59 + x * 2 ^ 50
  pub before : (k : ℕ) → k < x → get_or us k (pos 0) ≡ start +ℤ sum_ℤ k (λ i. get_or ds i (pos 0))

pub follow_none : (start : ℤ) (ds us : List ℤ) → nat_abs start ≤ 2 ^ 59 → Following start ds us 0 start
follow_none start ds us l = record {
  is = omega (arith, ints, sum_ℤ_none (λ i. get_or ds i (pos 0)));
  small = omega arith;
  before = λ k h. absurd (omega arith);
}

pub follow_more : (start : ℤ) (ds us : List ℤ) (x : ℕ) (next v then : ℤ) → Following start ds us x next → x < length us → x < 512 → StepsFew ds →
    v ≡ next → then ≡ next +ℤ get_or ds x (pos 0) → Following start ds (set us x v) (x + 1) then
follow_more start ds us x next v then f l m s e h = record {
  is = omega (arith, ints, f.is, sum_ℤ_more x (λ i. get_or ds i (pos 0)));
  small = omega (arith, ints, f.small, s x);
  before = λ k n. at k n;
}
  where
    at : (k : ℕ) → k < x + 1 → get_or (set us x v) k (pos 0) ≡ start +ℤ sum_ℤ k (λ i. get_or ds i (pos 0))
    at k n = grind (arith, get_or-set_same, get_or-set_other, cases_eq k x, f.before k, f.is)

pub follow_all : (start : ℤ) (ds us : List ℤ) (x : ℕ) (next : ℤ) → x ≡ length us → Following start ds us x next → Follows start ds us
follow_all start ds us x next e f = record { at = λ k l. f.before k (omega arith) }

by_lt : {P : Type 0} (a b : ℕ) → (a < b → P) → (b ≤ a → P) → P
by_lt a b p q = ⊎_elim p q (cases_lt a b)

-- a sum of so many numbers, none of which is more than m either way
sum_within : (n m : ℕ) (f : ℕ → ℤ) → ((i : ℕ) → i < n → nat_abs (f i) ≤ m) → nat_abs (sum_ℤ n f) ≤ n * m
unfolding sum_ℤ
sum_within zero m f s = omega arith
sum_within (suc n) m f s = omega (arith, ints, sum_within n m f (λ i l. s i (omega arith)), s n (omega arith))

pub follows_within : (start : ℤ) (ds us : List ℤ) → Follows start ds us → (m : ℕ) → AllWithin m ds → AllWithin (nat_abs start + length us * m) us
follows_within start ds us f m s k = by_lt k (length us) (λ l. within l) (λ l. rw (get_or_past us k (pos 0) l) (omega arith))
  where
    within : k < length us → nat_abs (get_or us k (pos 0)) ≤ nat_abs start + length us * m
    within l = omega (arith, ints, f.at k l, sum_within k m (λ i. get_or ds i (pos 0)) (λ i j. s i), mul-le k m (length us) m (omega arith) (omega arith))

-- the first rows of a room are written, and the next one begins with this
pub record RowsFollowed (w : ℕ) (ds bs room : List ℤ) (y : ℕ) (next : ℤ) : Type 0 where
  pub is : next ≡ sum_ℤ y (λ j. turns_in w bs 0 j)
  pub small : nat_abs next ≤ y * 2 ^ 50
  pub at : (x j : ℕ) → x < w → j < y → turns_in w room x j ≡ integral (turns_in w ds) (turns_in w bs) x j

pub rows_none : (w : ℕ) (ds bs room : List ℤ) → RowsFollowed w ds bs room 0 (pos 0)
rows_none w ds bs room = record {
  is = sym (sum_ℤ_none (λ j. turns_in w bs 0 j));
  small = omega arith;
  at = λ x j k l. absurd (omega arith);
}

-- a row of the integral
row_integral : (w : ℕ) (ds bs row : List ℤ) (x y : ℕ) (next : ℤ) → x < w → next ≡ sum_ℤ y (λ j. turns_in w bs 0 j) → Row w y ds row →
    next +ℤ sum_ℤ x (λ i. get_or row i (pos 0)) ≡ integral (turns_in w ds) (turns_in w bs) x y
unfolding integral turns_in
row_integral w ds bs row x y next l e r =
    let s : sum_ℤ x (λ i. get_or row i (pos 0)) ≡ sum_ℤ x (λ i. get_or ds (y * w + i) (pos 0)) = sum_ℤ_ext x _ _ (λ i k. r.at i (pos 0) (omega arith)) in
    cc

rows_more_at : (w h : ℕ) (ds bs room row us : List ℤ) (y : ℕ) (next then : ℤ) → RowsFollowed w ds bs room y next → y < h → length room ≡ w * h →
    Row w y ds row → length us ≡ w → Follows next row us →
    StepsFew bs → then ≡ next +ℤ get_or bs (y * w) (pos 0) → RowsFollowed w ds bs (put_mid (y * w) w room us) (y + 1) then
unfolding turns_in
rows_more_at w h ds bs room row us y next then f l n r m g b e = record {
  is = then_is;
  small = omega (arith, ints, f.small, b (y * w));
  at = at_all;
}
  where
    ends : y * w + w ≤ length room
    ends = omega (arith, row_ends w h y l)

    then_is : then ≡ sum_ℤ (y + 1) (λ j. turns_in w bs 0 j)
    then_is = omega (arith, ints, f.is, sum_ℤ_more y (λ j. turns_in w bs 0 j), ap (λ (k : ℕ). get_or bs k (pos 0)) (add-zero (y * w)))

    at_row : (x : ℕ) → x < w → get_or (put_mid (y * w) w room us) (y * w + x) (pos 0) ≡ integral (turns_in w ds) (turns_in w bs) x y
    at_row x k = written_in (y * w) w x room us (pos 0) ends m k ∙ g.at x (omega arith) ∙ row_integral w ds bs row x y next k f.is r

    at_all : (x j : ℕ) → x < w → j < y + 1 → get_or (put_mid (y * w) w room us) (j * w + x) (pos 0) ≡ integral (turns_in w ds) (turns_in w bs) x j
    at_all x j k q = ⊎_elim (λ p. subst (λ (i : ℕ). get_or (put_mid (y * w) w room us) (i * w + x) (pos 0) ≡ integral (turns_in w ds) (turns_in w bs) x i) (sym p) (at_row x k)) (λ p. written_before (y * w) w (j * w + x) room us (pos 0) ends (omega (arith, mul-add-lt j w x y (omega arith) k, mul_comm w y)) ∙ f.at x j k (omega arith)) (cases_eq j y)

pub rows_more : (w h k : ℕ) (ds bs room row us : List ℤ) (y : ℕ) (next then : ℤ) → RowsFollowed w ds bs room y next → y < h → length room ≡ w * h →
    Row w y ds row → length us ≡ w → Follows next row us →
    StepsFew bs → w ≡ k → then ≡ next +ℤ get_or bs (y * w) (pos 0) → RowsFollowed w ds bs (put_mid (y * w) k room us) (y + 1) then
rows_more w h k ds bs room row us y next then f l n r m g b q e =
    subst (λ (i : ℕ). RowsFollowed w ds bs (put_mid (y * w) i room us) (y + 1) then) q (rows_more_at w h ds bs room row us y next then f l n r m g b e)

integral_within : (w h m : ℕ) (ds bs : List ℤ) → StepsWithin m w h ds bs → (x y : ℕ) → x < w → y < h → nat_abs (integral (turns_in w ds) (turns_in w bs) x y) ≤ (w + h) * m
unfolding integral
integral_within w h m ds bs s x y k l =
    omega (
      arith,
      ints,
      sum_within y m (λ j. turns_in w bs 0 j) (λ j p. s.to_below 0 j (omega arith) (omega arith)),
      sum_within x m (λ i. turns_in w ds i y) (λ i p. s.to_right i y (omega arith) l),
      mul-le x m w m (omega arith) (omega arith),
      mul-le y m h m (omega arith) (omega arith),
    )

pub rows_all : (w h : ℕ) (ds bs room : List ℤ) (y : ℕ) (next : ℤ) → y ≡ h → RowsFollowed w ds bs room y next → Integrated w h ds bs room
unfolding turns_in
rows_all w h ds bs room y next e f = record {
  at = at;
  small = λ m s k l. small m s k l;
}
  where
    at : (x j : ℕ) → x < w → j < h → turns_in w room x j ≡ integral (turns_in w ds) (turns_in w bs) x j
    at x j k l = f.at x j k (omega arith)

    small_at : (m : ℕ) → StepsWithin m w h ds bs → (x j : ℕ) → x < w → j < h → nat_abs (turns_in w room x j) ≤ (w + h) * m
    small_at m s x j k l = subst (λ (z : ℤ). nat_abs z ≤ (w + h) * m) (sym (at x j k l)) (integral_within w h m ds bs s x j k l)

    some : (k : ℕ) → k < w * h → 0 < w
    some k l = ⊎_elim (λ p. absurd (omega (arith, ap (λ (n : ℕ). n * h) p))) (λ p. omega (arith, p)) (cases_eq w 0)

    small : (m : ℕ) → StepsWithin m w h ds bs → (k : ℕ) → k < w * h → nat_abs (get_or room k (pos 0)) ≤ (w + h) * m
    small m s k l =
        let e : (k / w) * w + k % w ≡ k = omega arith in
        subst (λ (i : ℕ). nat_abs (get_or room i (pos 0)) ≤ (w + h) * m) e
        (small_at m s (k % w) (k / w) (mod_below k w (some k l)) (div_below k w h (some k l) (omega (arith, mul_comm w h))))

pub row_steps_small : (w y : ℕ) (ds row : List ℤ) → Row w y ds row → StepsFew ds → StepsFew row
row_steps_small w y ds row r s k =
    by_lt k w (λ l. rw (r.at k (pos 0) l) (s (y * w + k))) (λ l. rw (get_or_past row k (pos 0) (omega (arith, r.long))) (omega arith))

-- the first place has no turns
pub integrated_first : (w h : ℕ) (ds bs room : List ℤ) → Integrated w h ds bs room → 0 < w → 0 < h → get_or room 0 (pos 0) ≡ pos 0
unfolding turns_in
integrated_first w h ds bs room i a b =
    let e : 0 ≡ 0 * w + 0 = omega (arith, mul_comm 0 w) in
    ap (λ (k : ℕ). get_or room k (pos 0)) e ∙ i.at 0 0 a b ∙ integral_first (turns_in w ds) (turns_in w bs)
