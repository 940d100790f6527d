-- The first wrong place of a list is what its definition in words says.
use Rattle.std.proofs.Common.{◌≡◌, ℕ, zero, suc, ◌<◌, ◌≤◌, ◌+◌, ◌-◌, true, false, ltb, List, [], ◌∷◌, ◌++◌, length, drop, get_or, replicate, Some, None, refl, sym, ap, ◌∙◌, inl, inr, arith}
use lib.ListN.{get_or-replicate, length-replicate}
use Rattle.std.proofs.lemmas.Bool.{cases_lt, cond-true, cond-false}
use Rattle.std.proofs.lemmas.List.{get_or_past, get_or_append_left, get_or-append_right, get_or-drop}
use Rattle.std.proofs.lemmas.Bool.Decides.{nat_tests}
use Rattle.std.specs.Option.{option_map}
use Rattle.phase_input.specs.Input.{first_wrong}
use Rattle.phase_input.specs.Verdict.{RightList, WrongFirst}

tail_right : (n b x : ℕ) (xs : List ℕ) → RightList (suc n) b (x ∷ xs) → RightList n b xs
tail_right n b x xs h = record { long = omega (arith, h.long); small = λ k l. h.small (suc k) (omega arith) }

ltb_yes : (x b : ℕ) → x < b → ltb x b ≡ true
ltb_yes x b h = grind (arith, nat_tests)

ltb_no : (x b : ℕ) → b ≤ x → ltb x b ≡ false
ltb_no x b h = grind (arith, nat_tests)

pub right_none : (n b : ℕ) (xs : List ℕ) → RightList n b xs → first_wrong n b xs ≡ None
unfolding first_wrong
right_none zero b [] h = refl
right_none zero b (x ∷ xs) h = absurd (omega (arith, h.long))
right_none (suc n) b [] h = absurd (omega (arith, h.long))
right_none (suc n) b (x ∷ xs) h =
    cond-true (ltb x b) (option_map suc (first_wrong n b xs)) (Some 0) (ltb_yes x b (h.small 0 (omega arith)))
    ∙ ap (option_map suc) (right_none n b xs (tail_right n b x xs h))

tail_wrong : (n b x : ℕ) (xs : List ℕ) (p : ℕ) → WrongFirst (suc n) b (x ∷ xs) (suc p) → WrongFirst n b xs p
tail_wrong n b x xs p h = record {
  before = λ k l. h.before (suc k) (omega arith);
  placed = omega (arith, h.placed);
  listed = omega (arith, h.listed);
  large = λ l m. h.large (omega arith) (omega arith);
  surplus = λ e. omega (arith, h.surplus (ap suc e));
}

pub wrong_some : (n b : ℕ) (xs : List ℕ) (p : ℕ) → WrongFirst n b xs p → first_wrong n b xs ≡ Some p
unfolding first_wrong
wrong_some zero b [] zero h = absurd (omega (arith, h.surplus refl))
wrong_some zero b [] (suc p) h = absurd (omega (arith, h.placed))
wrong_some zero b (x ∷ xs) zero h = refl
wrong_some zero b (x ∷ xs) (suc p) h = absurd (omega (arith, h.placed))
wrong_some (suc n) b [] zero h = refl
wrong_some (suc n) b [] (suc p) h = absurd (omega (arith, h.listed))
wrong_some (suc n) b (x ∷ xs) zero h = cond-false (ltb x b) (option_map suc (first_wrong n b xs)) (Some 0) (ltb_no x b (h.large (omega arith) (omega arith)))
wrong_some (suc n) b (x ∷ xs) (suc p) h =
    cond-true (ltb x b) (option_map suc (first_wrong n b xs)) (Some 0) (ltb_yes x b (h.before 0 (omega arith)))
    ∙ ap (option_map suc) (wrong_some n b xs p (tail_wrong n b x xs p h))

pub get_or_same : {A : Type 0} (n k : ℕ) (a : A) → get_or (replicate n a) k a ≡ a
get_or_same n k a = grind (arith, get_or-replicate, get_or_past, length-replicate)

pub small_everywhere : (n b : ℕ) (xs : List ℕ) → RightList n b xs → 0 < b → (k : ℕ) → get_or xs k 0 < b
small_everywhere n b xs h p k = grind (arith, get_or_past, h.small k, h.long)

-- a list with zeros after it says the same
pub padded : (xs ys : List ℕ) (n m : ℕ) → ys ≡ xs → (k : ℕ) → get_or (ys ++ drop n (replicate m 0)) k 0 ≡ get_or xs k 0
padded xs ys n m e k = rw e (elim (cases_lt k (length xs)) [
  | inl within ↦ get_or_append_left xs (drop n (replicate m 0)) 0 k within
  | inr past ↦ get_or-append_right xs (drop n (replicate m 0)) (length xs) k 0 refl past
      ∙ get_or-drop n (replicate m 0) (k - length xs) 0 ∙ get_or_same m (n + (k - length xs)) 0 ∙ sym (get_or_past xs k 0 past)
])
