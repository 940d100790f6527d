-- What is decided is the first reason that applies, and there is always one decision.
use Rattle.std.proofs.Common.{◌≡◌, ℕ, zero, suc, ◌+◌, ◌*◌, ◌<◌, ◌≤◌, true, false, eqb, ◌⊎◌, List, [], ◌∷◌, length, get_or, Some, None, Option, refl, subst, inl, inr, ⊎_elim, arith}
use Rattle.std.proofs.lemmas.Bool.Decides.{nat_tests}
use Rattle.std.proofs.lemmas.Bool.{cases_lt, cases_eq}
use Rattle.phase_input.specs.declared.refusal.Dimension.{Dimension}
use Rattle.phase_input.specs.declared.refusal.Dimension.TheVariants.{Wide, High, Turn}
use Rattle.phase_input.specs.declared.refusal.Refusal.{Refusal}
use Rattle.phase_input.specs.declared.refusal.Refusal.TheVariants.{Size, Seen, Price, Room, Text}
use Rattle.phase_input.specs.Input.{Input, within, wrong_size, verdict}
use Rattle.phase_input.specs.Verdict.{RightList, WrongFirst, Sized, IsVerdict, OneVerdict}
use Rattle.phase_input.proofs.Lists.{right_none, wrong_some}

within_yes : (low high n : ℕ) → low ≤ n → n ≤ high → within low high n ≡ true
within_yes low high n a b = grind (arith, nat_tests)

within_tells : (low high n : ℕ) → ((low ≤ n) × (n ≤ high)) ⊎ (within low high n ≡ false)
within_tells low high n =
    ⊎_elim (λ l. inr (grind (arith, nat_tests))) (λ l. ⊎_elim (λ k. inr (grind (arith, nat_tests))) (λ k. inl (l, k)) (cases_lt high n)) (cases_lt n low)

sized_none : (w h t : ℕ) → Sized w h t → wrong_size w h t ≡ None
sized_none w h t s =
    rw (within_yes 1 64 w s.wide_some s.wide_fits, within_yes 1 64 h s.high_some s.high_fits, within_yes 2 65536 t s.turn_some s.turn_fits)

pub verdict_is : (i : Input) (r : Option Refusal) → IsVerdict i r → r ≡ verdict i
verdict_is i None j =
    rw (sized_none i.wide i.high i.turn j.sized, right_none (i.wide * i.high) i.turn i.seen j.seen_fits, right_none (i.wide * i.high) 1001 i.right j.right_fits, right_none (i.wide * i.high) 1001 i.below j.below_fits, fits)
  where
    fits : eqb i.room (i.wide * i.high) ≡ true
    fits = let e = j.room_fits in grind (arith, nat_tests)
verdict_is i (Some (Size d)) j = rw j
verdict_is i (Some (Seen p)) j = rw (sized_none i.wide i.high i.turn j.0, wrong_some (i.wide * i.high) i.turn i.seen p j.1)
verdict_is i (Some (Price p)) (s, seen, inl right) =
    rw (sized_none i.wide i.high i.turn s, right_none (i.wide * i.high) i.turn i.seen seen, wrong_some (i.wide * i.high) 1001 i.right p right)
verdict_is i (Some (Price p)) (s, seen, inr (right, (q, e, below))) =
    rw (sized_none i.wide i.high i.turn s, right_none (i.wide * i.high) i.turn i.seen seen, right_none (i.wide * i.high) 1001 i.right right, wrong_some (i.wide * i.high) 1001 i.below q below, e)
verdict_is i (Some (Room n)) (s, seen, right, below, e, differ) =
    rw (sized_none i.wide i.high i.turn s, right_none (i.wide * i.high) i.turn i.seen seen, right_none (i.wide * i.high) 1001 i.right right, right_none (i.wide * i.high) 1001 i.below below, differs, e)
  where
    differs : eqb i.room (i.wide * i.high) ≡ false
    differs = grind (arith, nat_tests)
verdict_is i (Some (Text l)) j = absurd j

-- ---- something is always decided

right_more : (n b x : ℕ) (xs : List ℕ) → x < b → RightList n b xs → RightList (suc n) b (x ∷ xs)
right_more n b x xs l r = record { long = omega (arith, r.long); small = at }
  where
    at : (k : ℕ) → k < suc n → get_or (x ∷ xs) k 0 < b
    at zero k = l
    at (suc i) k = r.small i (omega arith)

wrong_more : (n b x : ℕ) (xs : List ℕ) (p : ℕ) → x < b → WrongFirst n b xs p → WrongFirst (suc n) b (x ∷ xs) (suc p)
wrong_more n b x xs p l f = record {
  before = before_all;
  placed = omega (arith, f.placed);
  listed = omega (arith, f.listed);
  large = λ i j. f.large (omega arith) (omega arith);
  surplus = λ e. omega (arith, f.surplus (omega arith));
}
  where
    before_all : (k : ℕ) → k < suc p → get_or (x ∷ xs) k 0 < b
    before_all zero k = l
    before_all (suc i) k = f.before i (omega arith)

wrong_here : (n b : ℕ) (xs : List ℕ) → (0 < n → 0 < length xs → b ≤ get_or xs 0 0) → (0 ≡ n → n < length xs) → WrongFirst n b xs 0
wrong_here n b xs l s = record { before = λ k i. absurd (omega arith); placed = omega arith; listed = omega arith; large = l; surplus = s }

list_judged : (n b : ℕ) (xs : List ℕ) → RightList n b xs ⊎ ((p : ℕ) × WrongFirst n b xs p)
list_judged zero b [] = inl (record { long = refl; small = λ k l. absurd (omega arith) })
list_judged zero b (x ∷ xs) = inr (0, wrong_here zero b (x ∷ xs) (λ l. absurd (omega arith)) (λ e. omega arith))
list_judged (suc n) b [] = inr (0, wrong_here (suc n) b [] (λ l k. absurd (omega arith)) (λ e. absurd (omega arith)))
list_judged (suc n) b (x ∷ xs) =
    ⊎_elim (λ l. ⊎_elim (λ r. inl (right_more n b x xs l r)) (λ f. inr (suc f.0, wrong_more n b x xs f.0 l f.1)) (list_judged n b xs))
    (λ l. inr (0, wrong_here (suc n) b (x ∷ xs) (λ i j. l) (λ e. absurd (omega arith)))) (cases_lt x b)

no_turn : (w h t : ℕ) → (1 ≤ w) × (w ≤ 64) → (1 ≤ h) × (h ≤ 64) → within 2 65536 t ≡ false → wrong_size w h t ≡ Some Turn
no_turn w h t a b c = rw (within_yes 1 64 w a.0 a.1) (rw (within_yes 1 64 h b.0 b.1) (rw c))

no_high : (w h t : ℕ) → (1 ≤ w) × (w ≤ 64) → within 1 64 h ≡ false → wrong_size w h t ≡ Some High
no_high w h t a b = rw (within_yes 1 64 w a.0 a.1) (rw b)

size_judged : (w h t : ℕ) → Sized w h t ⊎ ((d : Dimension) × (wrong_size w h t ≡ Some d))
size_judged w h t =
    ⊎_elim (λ a. ⊎_elim (λ b. ⊎_elim (λ c. inl (record { wide_some = a.0; wide_fits = a.1; high_some = b.0; high_fits = b.1; turn_some = c.0; turn_fits = c.1 }))
    (λ c. inr (Turn, no_turn w h t a b c)) (within_tells 2 65536 t))
    (λ b. inr (High, no_high w h t a b)) (within_tells 1 64 h))
    (λ a. inr (Wide, rw a)) (within_tells 1 64 w)

judged : (i : Input) → (r : Option Refusal) × IsVerdict i r
judged i =
    let n = i.wide * i.high in
    ⊎_elim (λ s.
    ⊎_elim (λ seen.
    ⊎_elim (λ right.
    ⊎_elim (λ below.
    ⊎_elim (λ e. (None, record { sized = s; seen_fits = seen; right_fits = right; below_fits = below; room_fits = e }))
    (λ d. (Some (Room i.room), (s, seen, right, below, refl, d))) (cases_eq i.room n))
    (λ f. (Some (Price (n + f.0)), (s, seen, inr (right, (f.0, refl, f.1))))) (list_judged n 1001 i.below))
    (λ f. (Some (Price f.0), (s, seen, inl f.1))) (list_judged n 1001 i.right))
    (λ f. (Some (Seen f.0), (s, f.1))) (list_judged n i.turn i.seen))
    (λ d. (Some (Size d.0), d.1)) (size_judged i.wide i.high i.turn)

pub one_verdict : OneVerdict
one_verdict i =
    let j = judged i in
    (subst (IsVerdict i) (verdict_is i j.0 j.1) j.1, verdict_is i)
