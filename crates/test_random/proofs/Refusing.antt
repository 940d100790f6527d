-- A trial that is refused.
use Rattle.std.proofs.Common.{◌≡◌, ℕ, ◌<◌, ◌↔◌, List, Some, None, Ok, Err, IfErr, IfSome, IfNone, Option, Result, refl, sym, ap, ◌∙◌, subst, arith}
use Rattle.std.specs.Result.{result_ok}
use Rattle.phase_field.specs.declared.field.Field.{Field as code}
use Rattle.phase_field.specs.Field.{Turns}
use Rattle.phase_input.specs.Input.{Input, input, field_lent, verdict, number}
use Rattle.phase_cost.specs.Cost.{cost, Least}
use Rattle.phase_input.specs.declared.refusal.Refusal.{Refusal}
use Rattle.unwrap.specs.declared.Done.{Done}
use Rattle.unwrap.specs.declared.Done.TheVariants.{Back, Refused}
use Rattle.test_random.specs.declared.trial.Trial.{Trial}
use Rattle.test_random.specs.Drawn.{input_drawn}
use Rattle.test_random.specs.Left.{RefusesRoom}
use Rattle.test_random.specs.Agreed.{Costs, AllCost}

pub same_input : (w w' h h' t t' : ℕ) (ss ss' rs rs' bs bs' : List ℕ) (n : ℕ) → w ≡ w' → h ≡ h' → t ≡ t' → ss ≡ ss' → rs ≡ rs' → bs ≡ bs' → input w h t ss rs bs n ≡ input w' h' t' ss' rs' bs' n
same_input w w' h h' t t' ss ss' rs rs' bs bs' n p q o s r b = λ i. input (p i) (q i) (o i) (s i) (r i) (b i) n

pub none_refused : (r : Result code Refusal) (i j : Input) → i ≡ j → IfErr r (λ why. verdict i ≡ Some why) → IfNone (result_ok r) ((why : Refusal) × (verdict j ≡ Some why))
none_refused (Ok f) i j e h = tt
none_refused (Err why) i j e h = (why, ap verdict (sym e) ∙ h)

-- which refusal it is; 0 where something was put back
abbrev refusal_number : Done → ℕ
refusal_number (Refused n) = n
refusal_number (Back c) = 0

room_why : (v : Option Refusal) (d : Done) (c : ℕ) → IfSome v (λ why. d ≡ Refused (number why)) → IfNone v (d ≡ Back c) → d ≡ Refused 4 → (why : Refusal) × (v ≡ Some why) × (number why ≡ 4)
room_why (Some why) d c r b e = (why, refl, ap refusal_number (sym r ∙ e))
room_why None d c r b e =
    let z : 0 ≡ 4 = ap refusal_number (sym b ∙ e) in
    absurd (omega (arith, z))

pub room_refused : (t : Trial) (n long : ℕ) (d : Done) (c : ℕ) → n ≡ long → IfSome (verdict (input_drawn t n)) (λ why. d ≡ Refused (number why)) → IfNone (verdict (input_drawn t n)) (d ≡ Back c) → d ≡ Refused 4 → RefusesRoom t long
room_refused t n long d c e r b f = subst (RefusesRoom t) e (room_why (verdict (input_drawn t n)) d c r b f)

-- turns that cost least cost more than nothing where all do
pub all_cost : (t : Trial) (d : Done) (ts : Turns) (n : ℕ) (v : Option Refusal) → n ≡ t.places → verdict (input_drawn t n) ≡ v → IfSome v (λ why. d ≡ Refused (number why)) → IfNone v (d ≡ Back (cost (field_lent (input_drawn t n)) ts)) → IfNone v (Least (field_lent (input_drawn t n)) ts) → Costs d ↔ AllCost t
all_cost t d ts n None e q r b l = (costs, λ a. subst Costs (sym b) (a.costs ts))
  where
    costs : Costs d → AllCost t
    costs p =
        let s : 0 < cost (field_lent (input_drawn t n)) ts = subst Costs b p in
        record { taken = ap (λ (m : ℕ). verdict (input_drawn t m)) (sym e) ∙ q; costs = λ u. omega (arith, s, l u) }
all_cost t d ts n (Some why) e q r b l = (λ p. absurd (subst Costs r p), λ a. absurd (some_none why (sym q ∙ ap (λ (m : ℕ). verdict (input_drawn t m)) e ∙ a.taken)))
  where
    is_one : Option Refusal → ℕ
    is_one None = 0
    is_one (Some w) = 1

    some_none : (w : Refusal) → Some w ≡ None → ⊥
    some_none w h =
        let z : 1 ≡ 0 = ap is_one h in
        omega (arith, z)
