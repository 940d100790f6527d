-- What is true of what turns cost. The statements are types, each the contract of a function of its name.
use Rattle.std.specs.Prelude.{◌≡◌, ℕ, suc, ◌<◌, ◌≤◌, List, [], ◌∷◌, ℤ, pos, ◌+ℤ◌, ◌*ℤ◌, ◌≤ℤ◌}
use Rattle.phase_field.specs.Field.{Field, Fit, Turns, height, round, field_in, turns_in}
use Rattle.phase_cost.specs.Cost.{cost, Least, AllComeBack, AllPriced, IsSmooth, IsFound}
use Rattle.phase_cost.specs.Steps.{Steps, Heights, heights_cost, residue, steps_of, turn_steps}
use Rattle.phase_cost.specs.Certificate.{Potentials, IsDualFeasible, dual_value}

-- every field has turns that cost least
abbrev pub HasLeast : Type 0
HasLeast = (f : Field) → (t : Turns) × Least f t

-- so have expected steps that come from anywhere
abbrev pub StepsHaveLeast : Type 0
StepsHaveLeast = (s : Steps) → (h : Heights) × ((g : Heights) → heights_cost s h ≤ heights_cost s g)

-- if all comes back there are turns that cost nothing; and with every price at least 1, only then
abbrev pub CostsNothing : Type 0
CostsNothing =
    (f : Field) → Fit f →
    (AllComeBack f → (t : Turns) × (cost f t ≡ 0)) × (AllPriced f → ((t : Turns) × (cost f t ≡ 0)) → AllComeBack f)

-- heights whose every step is above minus half a turn and at most half of one are found again by any turns that cost
-- least, but for whole turns over all, where every price is at least 1
abbrev pub FoundAgain : Type 0
FoundAgain = (f : Field) (t u : Turns) → Fit f → AllPriced f → IsSmooth f t → Least f u → IsFound f t u

-- the round of expected steps is as many turns as the residue says
abbrev pub ResidueTurns : Type 0
ResidueTurns = (f : Field) (x y : ℕ) → round f x y ≡ residue (turn_steps f) x y *ℤ pos f.turn

-- all turned by as much costs the same
abbrev pub AllTheSame : Type 0
AllTheSame = (f : Field) (t : Turns) (k : ℤ) → cost f (λ x y. t x y +ℤ k) ≡ cost f t

-- two fields of one size and one turn, in which the same was seen
pub record Alike (f g : Field) : Type 0 where
  pub wide : f.wide ≡ g.wide
  pub high : f.high ≡ g.high
  pub turn : f.turn ≡ g.turn
  pub seen : (x y : ℕ) → x < f.wide → y < f.high → f.seen x y ≡ g.seen x y

-- no step of the first is dearer than in the second
pub record Cheaper (f g : Field) : Type 0 where
  pub right : (x y : ℕ) → suc x < f.wide → y < f.high → f.right x y ≤ g.right x y
  pub below : (x y : ℕ) → x < f.wide → suc y < f.high → f.below x y ≤ g.below x y

-- prices that are larger never make the least smaller
abbrev pub Dearer : Type 0
Dearer = (f g : Field) (t u : Turns) → Alike f g → Cheaper f g → Least f t → Least g u → cost f t ≤ cost g u

-- no heights whatever cost less than the value of numbers that certify it, and heights that reach it cost least
abbrev pub CertifiedHeights : Type 0
CertifiedHeights =
    (s : Steps) (q : Potentials) → IsDualFeasible s q →
    ((h : Heights) → dual_value s q ≤ℤ pos (heights_cost s h)) × ((h : Heights) → pos (heights_cost s h) ≡ dual_value s q → (g : Heights) → heights_cost s h ≤ heights_cost s g)

-- and so do turns of a field
abbrev pub CertifiedTurns : Type 0
CertifiedTurns = (f : Field) (t : Turns) (q : Potentials) → IsDualFeasible (steps_of f) q → pos (cost f t) ≡ dual_value (steps_of f) q → Least f t

-- ---- worked examples, at turn 10 and every price 1

abbrev pub ones : List ℕ
ones = 1 ∷ 1 ∷ 1 ∷ 1 ∷ 1 ∷ 1 ∷ 1 ∷ 1 ∷ []

-- these heights, row by row
abbrev pub HasHeights : Field → Turns → List ℤ → Type 0
HasHeights f t hs = (x y : ℕ) → x < f.wide → y < f.high → height f t x y ≡ turns_in f.wide hs x y

-- 1 4 7 0 / 2 5 8 1: no square is off, and 0 0 0 1 / 0 0 0 1 cost nothing and give 1 4 7 10 / 2 5 8 11
abbrev pub TwoRows : Type 0
TwoRows =
    let f = field_in 4 2 10 (1 ∷ 4 ∷ 7 ∷ 0 ∷ 2 ∷ 5 ∷ 8 ∷ 1 ∷ []) ones ones in
    let t = turns_in 4 (pos 0 ∷ pos 0 ∷ pos 0 ∷ pos 1 ∷ pos 0 ∷ pos 0 ∷ pos 0 ∷ pos 1 ∷ []) in
    AllComeBack f × (cost f t ≡ 0) × HasHeights f t (pos 1 ∷ pos 4 ∷ pos 7 ∷ pos 10 ∷ pos 2 ∷ pos 5 ∷ pos 8 ∷ pos 11 ∷ [])

-- 0 5: no turns cost nothing
abbrev pub HalfUp : Type 0
HalfUp =
    let f = field_in 2 1 10 (0 ∷ 5 ∷ []) ones ones in
    let t = turns_in 2 (pos 0 ∷ pos 0 ∷ []) in
    (cost f t ≡ 0) × HasHeights f t (pos 0 ∷ pos 5 ∷ [])

-- 5 0: half a turn counts upward, so a turn at the second costs nothing, and gives 5 10
abbrev pub HalfOver : Type 0
HalfOver =
    let f = field_in 2 1 10 (5 ∷ 0 ∷ []) ones ones in
    let t = turns_in 2 (pos 0 ∷ pos 1 ∷ []) in
    (cost f t ≡ 0) × HasHeights f t (pos 5 ∷ pos 10 ∷ [])
