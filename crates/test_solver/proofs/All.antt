-- `all` over the numbers below one.
use Rattle.std.proofs.Common.{◌≡◌, ℕ, ◌+◌, ◌<◌, Bool, true, false, Option, Some, None, IfSome, IsTrue, IsSomeAnd, sym, refl, ap, ◌∙◌, arith}
use Rattle.std.specs.Bool.{MatchBool}
use Rattle.std.specs.Option.{option_map}
use Rattle.std.specs.Iterator.Runs.{SomeRun, AllItemsGive, AnyItemGives, CallKeepsClosure}
use Rattle.std.specs.Fn.{Called}
use denote.Param.Members.{Mut}
use Rattle.std.proofs.iter.Yields.{nat_range_steps}
use Rattle.std.proofs.iter.runs.Sources.{range_runs}

-- what stands at a place
at_place : (o : Option ℕ) (a : ℕ) (Q P : ℕ → Type 0) → option_map (λ y. y) o ≡ Some a → IfSome o Q → ((x : ℕ) → Q x → P x) → P a
at_place None a Q P e q h = cc
at_place (Some x) a Q P e q h = let same : x ≡ a = cc in rw (sym same) (h x q)

none_at : (o : Option ℕ) (s m k : ℕ) (Q P : ℕ → Type 0) → IfSome o (λ x. (x ≡ s + k) × (x < m)) → IsSomeAnd o Q → ((x : ℕ) → Q x → P x → ⊥) → ((x : ℕ) → x < m → P x) → ⊥
none_at None s m k Q P b q fail every = q
none_at (Some x) s m k Q P b q fail every = fail x q (every x b.1)

module _ {F : Type 0} (g : Mut F (ℕ × Unit {0}) Bool) (f : F) (n : ℕ) (P : ℕ → Type 0) where
  pub all_below : (r : Bool) → SomeRun nat_range_steps (record { start = 0; end = n }) (λ p. MatchBool r (IsTrue p.whole × AllItemsGive p g f true) (AnyItemGives p g f false)) → CallKeepsClosure g f → ((x : ℕ) → Called g f (x, tt) true f → P x)
      → ((x : ℕ) → Called g f (x, tt) false f → P x → ⊥) → (IsTrue r → (a : ℕ) → a < n → P a) × (((a : ℕ) → a < n → P a) → IsTrue r)
  all_below true run keeps pass fail = (
    λ t a h.
        let p = run.0 in
        let up = range_runs p p.seen in
        let whole : p.whole ≡ true = run.2.0 in
        let long : a < p.len = omega (arith, h, up.1 whole, ap (λ s. s.start) run.1, ap (λ s. s.end) run.1) in
        at_place (p.at a) a _ P (up.3 a long ∙ ap Some (omega (arith, ap (λ s. s.start) run.1))) (run.2.1 keeps a) pass,
    λ q. refl,
  )
  all_below false run keeps pass fail = (
    λ t. cc,
    λ q.
        let p = run.0 in
        let some = run.2 keeps in
        absurd (none_at (p.at some.0) p.from.start p.from.end some.0 _ P ((range_runs p p.seen).2 some.0) some.2 fail (λ x h. q x (omega (arith, h, ap (λ s. s.end) run.1)))),
  )
