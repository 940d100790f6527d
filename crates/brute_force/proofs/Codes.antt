-- Turns from -2 to 2 and their codes.
use Rattle.std.proofs.Common.{◌≡◌, ℕ, zero, suc, ◌+◌, ◌*◌, ◌/◌, ◌%◌, ◌^◌, ◌<◌, ◌≤◌, min, List, length, get_or, set, ℤ, pos, ◌+ℤ◌, ◌-ℤ◌, nat_abs, sym, refl, ap, ◌∙◌, subst, ⊎_elim, pow-suc, arith, get_or-set_other, get_or-set_same}
use native.Mathlib.Nat.{one-le-pow, pow-le-pow_right}
use Rattle.std.proofs.lemmas.Int.{ints}
use Rattle.std.proofs.lemmas.Bool.{cases_eq, cases_lt}
use Rattle.std.proofs.Math.Nat.{min-le_left, min-le_right, min-eq_left, min-eq_right}
use Rattle.std.proofs.lemmas.Nat.{mul-add-lt, div-mul-add, mod-mul-add, div_below, mod_below}
use Rattle.phase_field.specs.Field.{Field, Turns, turns_in}
use Rattle.phase_cost.specs.Cost.{cost}
use Rattle.phase_cost.proofs.Fields.{cost_ext}
use Rattle.phase_turns.specs.Cost.{RoomFits}
use Rattle.brute_force.specs.Tried.{Tried, LeastTried, LeastOf, turns_at, turns_of}

at_first : (code : ℕ) → turns_at code 0 ≡ (pos (code % 5) -ℤ pos 2)
unfolding turns_at
at_first code = refl

at_next : (code p : ℕ) → turns_at code (suc p) ≡ turns_at (code / 5) p
unfolding turns_at
at_next code p = refl

-- all turns of a code are from -2 to 2
pub turns_small : (code p : ℕ) → nat_abs (turns_at code p) ≤ 2
turns_small code zero = rw (at_first code) (omega (arith, ints))
turns_small code (suc p) = rw (at_next code p) (turns_small (code / 5) p)

-- ---- how a code is written

-- the turns of the first n places are written, and the rest is the code of those to come
pub record Written (code n rest : ℕ) (room : List ℤ) : Type 0 where
  pub at : (k : ℕ) → k < n → get_or room k (pos 0) ≡ turns_at code k
  pub left : (k : ℕ) → turns_at code (n + k) ≡ turns_at rest k

pub none_written : (code : ℕ) (room : List ℤ) → Written code 0 code room
none_written code room = record {
  at = λ k l. absurd (omega arith);
  left = λ k. ap (λ (i : ℕ). turns_at code i) (omega arith);
}

pub one_written : (code n rest : ℕ) (room : List ℤ) (v : ℤ) → Written code n rest room → n < length room → v ≡ (pos (rest % 5) -ℤ pos 2) →
    Written code (n + 1) (rest / 5) (set room n v)
one_written code n rest room v w l e = record {
  at = λ k m. grind (arith, get_or-set_same, get_or-set_other, cases_eq k n, w.at k, here);
  left = λ k. ap (λ (i : ℕ). turns_at code i) (next k) ∙ w.left (suc k) ∙ at_next rest k;
}
  where
    here : v ≡ turns_at code n
    here = e ∙ sym (at_first rest) ∙ sym (w.left 0) ∙ ap (λ (i : ℕ). turns_at code i) (omega arith)

    next : (k : ℕ) → (n + 1) + k ≡ n + suc k
    next k = omega arith

-- ---- turns have a code

digit : (z : ℤ) → nat_abs z ≤ 2 → (v : ℕ) × (v < 5) × ((pos v -ℤ pos 2) ≡ z)
digit z l = (nat_abs (z +ℤ pos 2), omega (arith, ints), omega (arith, ints))

pub coded : (n : ℕ) (d : ℕ → ℤ) → ((k : ℕ) → k < n → nat_abs (d k) ≤ 2) → (c : ℕ) × (c < 5 ^ n) × ((k : ℕ) → k < n → turns_at c k ≡ d k)
coded zero d s = (0, omega arith, λ k l. absurd (omega arith))
coded (suc n) d s = more (digit (d 0) (s 0 (omega arith))) (coded n (λ k. d (suc k)) (λ k l. s (suc k) (omega arith)))
  where
    more : ((v : ℕ) × (v < 5) × ((pos v -ℤ pos 2) ≡ d 0)) → ((c : ℕ) × (c < 5 ^ n) × ((k : ℕ) → k < n → turns_at c k ≡ d (suc k))) →
        (c : ℕ) × (c < 5 ^ suc n) × ((k : ℕ) → k < suc n → turns_at c k ≡ d k)
    more (v, vl, ve) (c, cl, ce) = (c * 5 + v, omega (arith, pow-suc 5 n), at)
      where
        at : (k : ℕ) → k < suc n → turns_at (c * 5 + v) k ≡ d k
        at zero l = at_first (c * 5 + v) ∙ ap (λ (i : ℕ). pos i -ℤ pos 2) (mod-mul-add c 5 v vl) ∙ ve
        at (suc k) l = at_next (c * 5 + v) k ∙ ap (λ (i : ℕ). turns_at i k) (div-mul-add c 5 v vl) ∙ ce k (omega arith)

-- ---- the least of all codes is the least of all turns

pub all_coded : (f : Field) (c : ℕ) → 0 < f.wide → LeastOf (λ k. cost f (turns_of f.wide k)) (5 ^ (f.wide * f.high)) c → LeastTried f c
all_coded f c w l = record { least = least; some = some l.some }
  where
    least : (t : Turns) → Tried f t → c ≤ cost f t
    least t s = found (coded (f.wide * f.high) (λ k. t (k % f.wide) (k / f.wide)) (λ k b. s (k % f.wide) (k / f.wide) (mod_below k f.wide w) (div_below k f.wide f.high w (omega arith))))
      where
        found : ((code : ℕ) × (code < 5 ^ (f.wide * f.high)) × ((k : ℕ) → k < f.wide * f.high → turns_at code k ≡ t (k % f.wide) (k / f.wide))) → c ≤ cost f t
        found (code, b, e) = omega (arith, l.least code b, cost_ext f (turns_of f.wide code) t same)
          where
            same : (x y : ℕ) → x < f.wide → y < f.high → turns_of f.wide code x y ≡ t x y
            same x y p q =
                e (y * f.wide + x) (mul-add-lt y f.wide x f.high q p)
                ∙ ap (λ (i : ℕ). t i ((y * f.wide + x) / f.wide)) (mod-mul-add y f.wide x p)
                ∙ ap (λ (i : ℕ). t x i) (div-mul-add y f.wide x p)

    some : ((k : ℕ) × (k < 5 ^ (f.wide * f.high)) × (cost f (turns_of f.wide k) ≡ c)) → (t : Turns) × Tried f t × (cost f t ≡ c)
    some (k, b, e) = (turns_of f.wide k, λ x y p q. turns_small k (y * f.wide + x), e)

-- ---- the least so far

pub first_least : (g : ℕ → ℕ) (c : ℕ) → c ≡ g 0 → LeastOf g 1 c
first_least g c e = record {
  least = λ k l. subst (λ (i : ℕ). c ≤ g i) (zero_is k l) (omega (arith, e));
  some = (0, omega arith, sym e);
}
  where
    zero_is : (k : ℕ) → k < 1 → 0 ≡ k
    zero_is k l = omega arith

pub lesser_least : (g : ℕ → ℕ) (n c r m : ℕ) → LeastOf g n c → r ≡ g n → m ≡ min c r → LeastOf g (n + 1) m
lesser_least g n c r m s e is = record {
  least = λ k l. ⊎_elim (λ i. subst (λ (j : ℕ). m ≤ g j) (sym i) (omega (arith, e, is, min-le_right c r))) (λ i. omega (arith, is, min-le_left c r, s.least k (omega arith))) (cases_eq k n);
  some = ⊎_elim (λ i. (s.some.0, omega (arith, s.some.1), s.some.2 ∙ sym (is ∙ min-eq_left (omega arith)))) (λ i. (n, omega arith, sym e ∙ sym (is ∙ min-eq_right i))) (cases_lt c r);
}

-- ---- a room with the turns of a code

pub code_fits : (f : Field) (code : ℕ) (room : List ℤ) → length room ≡ f.wide * f.high → ((k : ℕ) → k < length room → get_or room k (pos 0) ≡ turns_at code k) → RoomFits f room
code_fits f code room l e = record { long = l; most = λ k b. rw (e k (omega arith)) (omega (arith, turns_small code k)) }

pub code_cost : (f : Field) (code : ℕ) (room : List ℤ) → length room ≡ f.wide * f.high → ((k : ℕ) → k < length room → get_or room k (pos 0) ≡ turns_at code k) →
    cost f (turns_in f.wide room) ≡ cost f (turns_of f.wide code)
unfolding turns_in
code_cost f code room l e =
    cost_ext f _ _ (λ x y p q. e (y * f.wide + x) (omega (arith, l, mul-add-lt y f.wide x f.high q p)))

-- ---- how many codes there are

pub some_code : (n : ℕ) → 1 ≤ 5 ^ n
some_code n = one-le-pow n 5 (omega arith)

pub few_codes : (n : ℕ) → n ≤ 6 → 5 ^ n ≤ 15625
few_codes n l = pow-le-pow_right {n = 5} (omega arith) l
