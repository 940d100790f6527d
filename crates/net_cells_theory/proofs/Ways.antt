-- The same step the other way.
use Rattle.std.proofs.Common.{◌≡◌, ℕ, zero, suc, ◌<◌, ◌≢◌, refl, arith}
use Rattle.net_cells.specs.Net.{back}

pub back_less : (d : ℕ) → d < 4 → back d < 4
unfolding back
back_less zero l = omega arith
back_less (suc zero) l = omega arith
back_less (suc (suc zero)) l = omega arith
back_less (suc (suc (suc d))) l = omega arith

pub back_twice : (d : ℕ) → d < 4 → back (back d) ≡ d
unfolding back
back_twice zero l = refl
back_twice (suc zero) l = refl
back_twice (suc (suc zero)) l = refl
back_twice (suc (suc (suc zero))) l = refl
back_twice (suc (suc (suc (suc d)))) l = absurd (omega arith)

pub back_other : (d : ℕ) → d < 4 → (back d ≢ d)
unfolding back
back_other zero l e = absurd (omega (arith, e))
back_other (suc zero) l e = absurd (omega (arith, e))
back_other (suc (suc zero)) l e = absurd (omega (arith, e))
back_other (suc (suc (suc zero))) l e = absurd (omega (arith, e))
back_other (suc (suc (suc (suc d)))) l e = absurd (omega arith)
