-- From expected steps and what flows across them to turns that cost least.
use Rattle.std.proofs.Common.{◌≡◌, ℕ, suc, pred, ◌+◌, ◌*◌, ◌^◌, ◌<◌, ◌≤◌, ◌⊎◌, inl, inr, List, length, get_or, ℤ, pos, negsuc, ◌+ℤ◌, ◌-ℤ◌, ◌*ℤ◌, nat_abs, sym, refl, ap, ap₂, ◌∙◌, subst, mul_comm, arith}
use Rattle.std.proofs.lemmas.Int.{ints}
use Rattle.std.proofs.lemmas.Bool.{cases_lt}
use Rattle.std.proofs.lemmas.List.{get_or_past}
use Rattle.std.proofs.lemmas.Nat.{mul-add-lt, mul-le}
use Rattle.sums.specs.Sum.{sum_ℤ}
use Rattle.sums.proofs.Sum.{sum_ℤ_ext}
use Rattle.phase_field.specs.Field.{Field, Fit, field_in, turns_in, wrap_count}
use Rattle.phase_field.specs.Model.{turns_right, turns_below}
use Rattle.phase_cost.specs.Cost.{cost, Least}
use Rattle.phase_cost.specs.Steps.{Steps, Heights, heights_cost, more_right, more_below, steps_in, turn_steps, integral, residue, NoResidues}
use Rattle.phase_cost.proofs.Cost.{all_steps_ext, heights_cost_ext, cost_turns, least_from_turns}
use Rattle.phase_cost.proofs.Integral.{integral_costs_nothing, round_residue}
use Rattle.phase_field.proofs.Near.{one_turn}
use Rattle.sums.proofs.Ring.{mul_cancel_ℤ, zero_mul_ℤ, one_mul_ℤ}
use Rattle.net_cells.specs.declared.cell.Flows.{Flows}
use Rattle.squares_build.specs.Steps.{sized}
use Rattle.squares_solve.specs.Solved.{Solved}
use Rattle.phase_turns.specs.Follow.{AllWithin, StepsWithin, Integrated}
use Rattle.squares_cells.specs.Squares.{Across, across, heights_by}
use Rattle.squares_solve.specs.Flows.{Added, Within}
use Rattle.squares_turns.specs.Least.{ExpectedIn, Crossed, most_turns}

-- over the lists heights cost what they do over the field
pub same_cost : (f : Field) (right below : List ℤ) (h : Heights) → ExpectedIn f right below → heights_cost (steps_in f right below) h ≡ heights_cost (turn_steps f) h
unfolding heights_cost more_right more_below steps_in turn_steps
same_cost f right below h e =
    all_steps_ext f.wide f.high _ _ _ _ (λ x y k l. ap (λ (z : ℤ). f.right x y * nat_abs ((h (suc x) y -ℤ h x y) -ℤ z)) (e.right_at x y k l))
    (λ x y k l. ap (λ (z : ℤ). f.below x y * nat_abs ((h x (suc y) -ℤ h x y) -ℤ z)) (e.below_at x y k l))

-- an integral tells only of steps that there are
integral_ext : (w h : ℕ) (dr db er eb : ℕ → ℕ → ℤ) → ((x y : ℕ) → x < pred w → y < h → dr x y ≡ er x y) → ((x y : ℕ) → x < w → y < pred h → db x y ≡ eb x y) →
    (x y : ℕ) → x < w → y < h → integral dr db x y ≡ integral er eb x y
unfolding integral
integral_ext w h dr db er eb p q x y k l =
    ap₂ (λ (a b : ℤ). a +ℤ b) (sum_ℤ_ext y (λ j. db 0 j) (λ j. eb 0 j) (λ j m. q 0 j (omega arith) (omega arith))) (sum_ℤ_ext x (λ i. dr i y) (λ i. er i y) (λ i m. p i y (omega arith) l))

-- turns that follow steps with flows across them
pub crossed_at : (f : Field) (right below right' below' room : List ℤ) (told : ℕ) (c : Crossed f right below right' below' told) → Integrated f.wide f.high right' below' room →
    (x y : ℕ) → x < f.wide → y < f.high → turns_in f.wide room x y ≡ heights_by (steps_in f right below) c.across x y
unfolding heights_by steps_in
crossed_at f right below right' below' room told c i x y k l =
    i.at x y k l ∙ integral_ext f.wide f.high (turns_in f.wide right') (turns_in f.wide below') (λ x y. turns_in f.wide right x y +ℤ c.across.right x y) (λ x y. turns_in f.wide below x y +ℤ c.across.below x y)
    c.to_right.is c.to_below.is x y k l

same_heights : (f : Field) (right below right' below' room : List ℤ) (told : ℕ) (c : Crossed f right below right' below' told) → Integrated f.wide f.high right' below' room →
    heights_cost (steps_in f right below) (turns_in f.wide room) ≡ heights_cost (steps_in f right below) (heights_by (steps_in f right below) c.across)
unfolding steps_in
same_heights f right below right' below' room told c i =
    heights_cost_ext (steps_in f right below) (turns_in f.wide room) (heights_by (steps_in f right below) c.across) (crossed_at f right below right' below' room told c i)

pub crossed_cost : (f : Field) (right below right' below' room : List ℤ) (told : ℕ) → ExpectedIn f right below → Crossed f right below right' below' told → Integrated f.wide f.high right' below' room →
    f.turn * told ≡ cost f (turns_in f.wide room)
crossed_cost f right below right' below' room told e c i =
    ap (λ (n : ℕ). f.turn * n) (c.cost ∙ (sym (same_heights f right below right' below' room told c i) ∙ same_cost f right below (turns_in f.wide room) e)) ∙ sym (cost_turns f (turns_in f.wide room))

pub crossed_least : (f : Field) (right below right' below' room : List ℤ) (told : ℕ) → ExpectedIn f right below → Crossed f right below right' below' told → Integrated f.wide f.high right' below' room →
    Least f (turns_in f.wide room)
crossed_least f right below right' below' room told e c i =
    least_from_turns f (turns_in f.wide room)
    (λ h. omega (arith, same_cost f right below (turns_in f.wide room) e, same_heights f right below right' below' room told c i, c.least h, same_cost f right below h e))

-- and no more of them than most_turns says, either way
pub crossed_few : (f : Field) (right below right' below' room : List ℤ) (told : ℕ) → Crossed f right below right' below' told → Integrated f.wide f.high right' below' room → length room ≡ f.wide * f.high →
    AllWithin (most_turns f.wide f.high) room
crossed_few f right below right' below' room told c i e k = elim (cases_lt k (f.wide * f.high)) [
  | inl l ↦ i.small (1 + (f.high + 1) * (f.wide + 1)) c.few k l
  | inr l ↦ rw (get_or_past room k (pos 0) (omega (arith, e, l))) (omega arith)
]

-- where a field is no larger than 64 by 64
pub few_in_64 : (w h w' h' : ℕ) (room : List ℤ) → w' ≡ w → h' ≡ h → w ≤ 64 → h ≤ 64 → AllWithin (most_turns w' h') room → AllWithin (most_turns 64 64) room
few_in_64 w h w' h' room p q k l a i =
    omega (arith, a i, mul-le (w' + h') (1 + (h' + 1) * (w' + 1)) 128 4226 (omega arith) (omega (arith, mul-le (h' + 1) (w' + 1) 65 65 (omega arith) (omega arith))))

-- no more than one turn is expected of a step
expected_few : (f : Field) (right below : List ℤ) → ExpectedIn f right below → StepsWithin (1 + (f.high + 1) * (f.wide + 1)) f.wide f.high right below
unfolding turns_in
expected_few f right below e = record { to_right = λ x y k l. omega (arith, e.right_small (y * f.wide + x)); to_below = λ x y k l. omega (arith, e.below_small (y * f.wide + x)) }

-- where all comes back nothing has to flow, and turns that follow what is expected cost nothing
pub back_crossed : (f : Field) (right below : List ℤ) → ExpectedIn f right below → NoResidues (steps_in f right below) → Crossed f right below right below 0
back_crossed f right below e n = record {
  across = none;
  to_right = record { is = λ x y k l. omega (arith, ints); few = λ k. omega (arith, e.right_small k) };
  to_below = record { is = λ x y k l. omega (arith, ints); few = λ k. omega (arith, e.below_small k) };
  few = expected_few f right below e;
  cost = sym free;
  least = λ h. omega (arith, free);
}
  where
    none : Across
    none = record { right = λ x y. pos 0; below = λ x y. pos 0 }

    alike : (x y : ℕ) → heights_by (steps_in f right below) none x y ≡ integral (turns_in f.wide right) (turns_in f.wide below) x y
    alike x y = unfold heights_by steps_in integral in
        ap₂ (λ (a b : ℤ). a +ℤ b) (sum_ℤ_ext y _ _ (λ j m. omega (arith, ints))) (sum_ℤ_ext x _ _ (λ i m. omega (arith, ints)))

    nothing : heights_cost (steps_in f right below) (integral (turns_in f.wide right) (turns_in f.wide below)) ≡ 0
    nothing = unfold steps_in in integral_costs_nothing (steps_in f right below) n

    free : heights_cost (steps_in f right below) (heights_by (steps_in f right below) none) ≡ 0
    free = heights_cost_ext (steps_in f right below) (heights_by (steps_in f right below) none) (integral (turns_in f.wide right) (turns_in f.wide below)) (λ x y k l. alike x y) ∙ nothing

-- what is expected of the lists of a field
pub expected_in : (w h t : ℕ) (seen rs bs : List ℕ) (right below : List ℤ) → 1 ≤ w → length right ≡ w * h → length below ≡ w * h →
    ((k : ℕ) → k + 1 < length right → get_or right k (pos 0) ≡ wrap_count t (pos (get_or seen (k + 1) 0) -ℤ pos (get_or seen k 0))) →
    ((k : ℕ) → k + w < length below → get_or below k (pos 0) ≡ wrap_count t (pos (get_or seen (k + w) 0) -ℤ pos (get_or seen k 0))) →
    ((k : ℕ) → nat_abs (get_or right k (pos 0)) ≤ 1) → ((k : ℕ) → nat_abs (get_or below k (pos 0)) ≤ 1) →
    ExpectedIn (field_in w h t seen rs bs) right below
unfolding turns_in
expected_in w h t seen rs bs right below o m n p q a b = record {
  right_at = λ x y k l. p (y * w + x) (omega (arith, m, ends x y k l)) ∙ ap (λ (j : ℕ). wrap_count t (pos (get_or seen j 0) -ℤ pos (get_or seen (y * w + x) 0))) (next x y);
  below_at = λ x y k l. q (y * w + x) (omega (arith, n, lower x y k l)) ∙ ap (λ (j : ℕ). wrap_count t (pos (get_or seen j 0) -ℤ pos (get_or seen (y * w + x) 0))) (under x y);
  right_small = a;
  below_small = b;
}
  where
    next : (x y : ℕ) → (y * w + x) + 1 ≡ y * w + suc x
    next x y = omega arith

    under : (x y : ℕ) → (y * w + x) + w ≡ suc y * w + x
    under x y = omega arith

    ends : (x y : ℕ) → suc x < w → y < h → (y * w + x) + 1 < w * h
    ends x y k l = omega (arith, mul-add-lt y w (suc x) h l k)

    lower : (x y : ℕ) → x < w → suc y < h → (y * w + x) + w < w * h
    lower x y k l = omega (arith, mul-add-lt (suc y) w x h l k)

-- the round of what is expected is as many turns as the residue
residue_few : (f : Field) → Fit f → (x y : ℕ) → suc x < f.wide → suc y < f.high →
    nat_abs ((turns_right f x y +ℤ turns_below f (suc x) y) -ℤ (turns_below f x y +ℤ turns_right f x (suc y))) ≤ 1
unfolding turn_steps residue
residue_few f fit x y k l = by (residue (turn_steps f) x y) (one_turn f x y fit k l) (round_residue f x y)
  where
    by : {r : ℤ} (o : ℤ) → (r ≡ pos 0) ⊎ ((r ≡ pos f.turn) ⊎ (r +ℤ pos f.turn ≡ pos 0)) → r ≡ o *ℤ pos f.turn → nat_abs o ≤ 1
    by o (inl p) e = omega (arith, ints, mul_cancel_ℤ f.turn o (pos 0) (omega (arith, fit.turn_2)) (sym e ∙ (p ∙ sym (zero_mul_ℤ (pos f.turn)))))
    by o (inr (inl p)) e = omega (arith, ints, mul_cancel_ℤ f.turn o (pos 1) (omega (arith, fit.turn_2)) (sym e ∙ (p ∙ sym (one_mul_ℤ (pos f.turn)))))
    by o (inr (inr p)) e = omega (arith, ints, mul_cancel_ℤ f.turn o (negsuc 0) (omega (arith, fit.turn_2)) (sym e ∙ minus p))
      where
        minus : {r : ℤ} → r +ℤ pos f.turn ≡ pos 0 → r ≡ negsuc 0 *ℤ pos f.turn
        minus p = omega (arith, ints, p)

-- what is expected of a field has residues of a turn at most
pub few_residues : (f : Field) (right below : List ℤ) → Fit f → ExpectedIn f right below → (x y : ℕ) → suc x < f.wide → suc y < f.high → nat_abs (residue (steps_in f right below) x y) ≤ 1
unfolding residue steps_in
few_residues f right below fit e x y k l =
    subst (λ (z : ℤ). nat_abs z ≤ 1) (sym alike) (residue_few f fit x y k l)
  where
    alike : (turns_in f.wide right x y +ℤ turns_in f.wide below (suc x) y) -ℤ (turns_in f.wide below x y +ℤ turns_in f.wide right x (suc y)) ≡ (turns_right f x y +ℤ turns_below f (suc x) y) -ℤ (turns_below f x y +ℤ turns_right f x (suc y))
    alike = omega (arith, ints, e.right_at x y k (omega arith), e.below_at (suc x) y k l, e.below_at x y (omega arith) l, e.right_at x (suc y) k l)

-- where a settled flow is added to steps
pub crossed : (f : Field) (right below right' below' : List ℤ) (flows : List Flows) (told : ℕ) → ExpectedIn f right below → Solved (steps_in f right below) flows told →
    Added f.wide (pred f.wide) f.high (across (sized f.wide f.high) flows).right right right' → Added f.wide f.wide (pred f.high) (across (sized f.wide f.high) flows).below below below' →
    Crossed f right below right' below' told
unfolding steps_in turns_in
crossed f right below right' below' flows told e s a b = record {
  across = across (sized f.wide f.high) flows;
  to_right = a;
  to_below = b;
  few = record {
    to_right = λ x y k l. omega (arith, ints, a.is x y (omega arith) l, e.right_small (y * f.wide + x), s.few.right x y k l);
    to_below = λ x y k l. omega (arith, ints, b.is x y k (omega arith), e.below_small (y * f.wide + x), s.few.below x y k l);
  };
  cost = s.cost_is;
  least = s.least;
}

pub few_across : (f : Field) (right below : List ℤ) (flows : List Flows) (told : ℕ) → Solved (steps_in f right below) flows told → Within (2 ^ 49) (sized f.wide f.high) (across (sized f.wide f.high) flows)
unfolding steps_in
few_across f right below flows told s = record { right = λ x y k l. omega (arith, s.within.right x y k l); below = λ x y k l. omega (arith, s.within.below x y k l) }
