-- What an option holds that is told of something, and where it holds anything.
use Rattle.std.proofs.Common.{◌≡◌, true, Some, None, Option, SomeIff, unwrap_or, refl, subst}
use Rattle.std.specs.Prelude.{IfNone, IsSome}

pub told_or : {A : Type 0} (P : Type 0) (o : Option A) (v other : A) → SomeIff o P v → P → unwrap_or o other ≡ v
told_or P None v other c h = absurd (c h)
told_or P (Some x) v other c h = c.1

pub or_told : {A : Type 0} (P : Type 0) (o : Option A) (v other : A) → SomeIff o P v → (P → ⊥) → unwrap_or o other ≡ other
or_told P None v other c h = refl
or_told P (Some x) v other c h = absurd (h c.0)

pub told_some : {A : Type 0} (P : Type 0) (o : Option A) (x v : A) → o ≡ Some x → SomeIff o P v → x ≡ v
told_some {A} P o x v e h = (subst (λ (p : Option A). SomeIff p P v) e h).1

pub some_told : {A : Type 0} (P : Type 0) (o : Option A) (v : A) → SomeIff o P v → P → IsSome o
some_told P None v c h = absurd (c h)
some_told P (Some x) v c h = λ i. true

pub some_of : {A P : Type 0} (o : Option A) → IfNone o (P → ⊥) → P → IsSome o
some_of None h p = absurd (h p)
some_of (Some x) h p = λ i. true
