-- How trials are counted.
use Rattle.std.specs.Prelude.{◌≡◌, ℕ, ◌+◌, ◌-◌, ◌^◌, min, if◌then◌else◌}
use Rattle.test_random.specs.declared.counts.Counts.{Counts}
use Rattle.test_random.specs.declared.counts.Outcome.{Outcome}

-- the sum, or the largest number where it is larger
abbrev pub added : ℕ → ℕ → ℕ
added a b = min (a + b) (2 ^ 32 - 1)

-- one trial
pub record IsOne (o : Outcome) (counts : Counts) : Type 0 where
  pub fields : counts.fields ≡ 1
  pub residues : counts.residues ≡ (if o.residues then 1 else 0)
  pub costly : counts.costly ≡ (if o.costly then 1 else 0)
  pub agreed : counts.agreed ≡ (if o.agreed then 1 else 0)
  pub refused : counts.refused ≡ (if o.refused then 1 else 0)

-- one trial more
pub record Counted (o : Outcome) (before after : Counts) : Type 0 where
  pub fields : after.fields ≡ added before.fields 1
  pub residues : after.residues ≡ added before.residues (if o.residues then 1 else 0)
  pub costly : after.costly ≡ added before.costly (if o.costly then 1 else 0)
  pub agreed : after.agreed ≡ added before.agreed (if o.agreed then 1 else 0)
  pub refused : after.refused ≡ added before.refused (if o.refused then 1 else 0)

-- all of another count
pub record CountedAll (more before after : Counts) : Type 0 where
  pub fields : after.fields ≡ added before.fields more.fields
  pub residues : after.residues ≡ added before.residues more.residues
  pub costly : after.costly ≡ added before.costly more.costly
  pub agreed : after.agreed ≡ added before.agreed more.agreed
  pub refused : after.refused ≡ added before.refused more.refused
