-- What turns cost in fields that agree, and all turned by as much.
use Rattle.std.proofs.Common.{◌≡◌, ℕ, suc, ◌*◌, ◌<◌, ◌≤◌, ℤ, pos, ◌+ℤ◌, ◌-ℤ◌, ◌*ℤ◌, nat_abs, sym, refl, ap, ◌∙◌, le_of_eq, mul-le-mul, le_antisymm, arith}
use Rattle.phase_field.specs.Field.{Field, Turns, height, near}
use Rattle.phase_cost.specs.Cost.{cost}
use Rattle.phase_cost.specs.Steps.{more_right, more_below, heights_cost, steps_of, turn_steps}
use Rattle.phase_cost.specs.Theorems.{AllTheSame, Alike, Cheaper, Dearer}
use Rattle.phase_cost.proofs.Cost.{cost_is, cost_turns, heights_cost_le, heights_cost_shift}

pub all_the_same : AllTheSame
all_the_same f t k = cost_turns f (λ x y. t x y +ℤ k) ∙ ap (λ (n : ℕ). f.turn * n) (heights_cost_shift (turn_steps f) t k) ∙ sym (cost_turns f t)

-- by how much a step differs, from what was seen and turned at its two ends
unfoldable differs : (turn a b : ℕ) (s t : ℤ) → ℕ
differs turn a b s t = nat_abs (((pos a +ℤ (s *ℤ pos turn)) -ℤ (pos b +ℤ (t *ℤ pos turn))) -ℤ near turn (pos a -ℤ pos b))

pub fields_cost_le : (f g : Field) (t u : Turns) → Alike f g → Cheaper f g → ((x y : ℕ) → x < f.wide → y < f.high → t x y ≡ u x y) → cost f t ≤ cost g u
unfolding differs height steps_of more_right more_below
fields_cost_le f g t u al ch e =
    let l : heights_cost (steps_of f) (height f t) ≤ heights_cost (steps_of g) (height g u) =
    heights_cost_le (steps_of f) (steps_of g) (height f t) (height g u) al.wide al.high
    (λ x y k m. mul-le-mul (ch.right x y k m) (same (suc x) y x y k m (omega arith) m))
    (λ x y k m. mul-le-mul (ch.below x y k m) (same x (suc y) x y k m k (omega arith))) in
    omega (arith, cost_is f t, cost_is g u)
  where
    same : (x' y' x y : ℕ) → x' < f.wide → y' < f.high → x < f.wide → y < f.high →
        differs f.turn (f.seen x' y') (f.seen x y) (t x' y') (t x y) ≤ differs g.turn (g.seen x' y') (g.seen x y) (u x' y') (u x y)
    same x' y' x y a b c d =
        let p = al.seen x' y' a b in
        let q = al.seen x y c d in
        let r = e x' y' a b in
        let s = e x y c d in
        let o = al.turn in
        le_of_eq (λ i. differs (o i) (p i) (q i) (r i) (s i))

alike_back : (f g : Field) → Alike f g → Alike g f
alike_back f g al =
    record { wide = sym al.wide; high = sym al.high; turn = sym al.turn; seen = λ x y k l. sym (al.seen x y (omega (arith, al.wide)) (omega (arith, al.high))) }

-- fields that agree on their places and steps, and turns that agree on the places
pub fields_cost_ext : (f g : Field) (t u : Turns) → Alike f g → Cheaper f g → Cheaper g f → ((x y : ℕ) → x < f.wide → y < f.high → t x y ≡ u x y) → cost f t ≡ cost g u
fields_cost_ext f g t u al ch hc e =
    le_antisymm (fields_cost_le f g t u al ch e)
    (fields_cost_le g f u t (alike_back f g al) hc (λ x y k l. sym (e x y (omega (arith, al.wide)) (omega (arith, al.high)))))

pub cost_ext : (f : Field) (t u : Turns) → ((x y : ℕ) → x < f.wide → y < f.high → t x y ≡ u x y) → cost f t ≡ cost f u
cost_ext f t u e =
    let ch : Cheaper f f = record { right = λ x y k l. omega arith; below = λ x y k l. omega arith } in
    fields_cost_ext f f t u (record { wide = refl; high = refl; turn = refl; seen = λ x y k l. refl }) ch ch e

pub dearer : Dearer
dearer f g t u al ch l m = omega (arith, l u, fields_cost_le f g u u al ch (λ x y a b. refl))
