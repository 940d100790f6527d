-- A whole number for each square of a field, which shows that nothing costs less than what they add up to.
use Rattle.std.specs.Prelude.{◌≡◌, ℕ, suc, pred, ◌<◌, ◌≤◌, ℤ, pos, ◌-ℤ◌, ◌*ℤ◌, unsigned_abs}
use Rattle.sums.specs.Sum.{sum_ℤ}
use Rattle.phase_cost.specs.Steps.{Steps, residue}

-- the square whose first place is (x, y) has its number at (x + 1, y + 1), so that there is room for the outside all round
abbrev pub Potentials : Type 0
Potentials = ℕ → ℕ → ℤ

-- 0 outside, and the numbers on both sides of each step differ by its price at most
pub record IsDualFeasible (s : Steps) (q : Potentials) : Type 0 where
  pub top : (x : ℕ) → suc x < s.wide → q (suc x) 0 ≡ pos 0
  pub bottom : (x : ℕ) → suc x < s.wide → q (suc x) s.high ≡ pos 0
  pub left : (y : ℕ) → suc y < s.high → q 0 (suc y) ≡ pos 0
  pub end : (y : ℕ) → suc y < s.high → q s.wide (suc y) ≡ pos 0
  pub right : (x y : ℕ) → suc x < s.wide → y < s.high → unsigned_abs (q (suc x) (suc y) -ℤ q (suc x) y) ≤ s.right x y
  pub below : (x y : ℕ) → x < s.wide → suc y < s.high → unsigned_abs (q (suc x) (suc y) -ℤ q x (suc y)) ≤ s.below x y

-- each number times the residue of its square
unfoldable pub dual_value : Steps → Potentials → ℤ
dual_value s q = sum_ℤ (pred s.high) (λ y. sum_ℤ (pred s.wide) (λ x. q (suc x) (suc y) *ℤ residue s x y))
