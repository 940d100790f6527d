-- What lowering writes, cell by cell.
use Rattle.std.proofs.Common.{◌≡◌, ℕ, ◌+◌, ◌<◌, ◌⊎◌, List, length, ℤ, pos, ◌≤ℤ◌, ◌<ℤ◌, ◌≢◌, nat_abs, sym, ap, ap₂, ◌∙◌, subst, refl, cond, inl, inr, slice_index, true, false, ◌^◌, ◌≤◌, arith}
use lib.Signed.{lt_z}
use Rattle.std.proofs.lemmas.Int.{ints}
use Rattle.std.proofs.lemmas.Bool.{cases_eq, cond-false}
use Rattle.net_cells.specs.Lists.{potential_of}
use Rattle.net_cells.specs.Fenced.{Bounded}
use Rattle.net_cells.specs.declared.cell.Cell.{Cell}
use Rattle.net_cells.specs.declared.cell.Mark.{Mark}
use Rattle.net_cells.specs.declared.side.Side.{Side}
use Rattle.net_cells_search.specs.Marks.{far, label_of, open_of}
use Rattle.net_cells_search.specs.Lower.{lowered, FallenAt, Forgotten, As, Gone, Fallen}

pub not_lt : (a b : ℤ) → b ≤ℤ a → lt_z a b ≡ false
not_lt a b h = grind (arith, ints)

pub lowered_beyond : (side : Side) (label bound p : ℤ) → bound ≤ℤ label → lowered side label bound p ≡ p
lowered_beyond side label bound p h = rw (not_lt label bound h) refl

module _ (listed : List ℕ) (side : Side) (bound : ℤ) (old : List Cell) (marks : List Mark) where
  pub fallen_none : Fallen listed 0 side bound old old marks marks
  fallen_none = record {
    either = λ v. inl (record { potential = refl; label = refl; waits = refl });
    gone = λ k l. absurd (omega arith);
    way = λ v. refl;
    excess = λ v. refl;
    inner = λ v. refl;
  }

  module _ (k : ℕ) (mid new : List Cell) (marks' marks'' : List Mark) (top : bound ≤ℤ far) (f : Fallen listed k side bound old mid marks marks')
      (c : FallenAt mid new (slice_index listed k) (lowered side (label_of marks' (slice_index listed k)) bound (potential_of mid (slice_index listed k))))
      (m : Forgotten marks' marks'' (slice_index listed k)) where
    abbrev v : ℕ
    v = slice_index listed k

    here : Gone side bound old new marks marks'' v
    here = record { potential = c.here ∙ by (f.either v); label = m.label_here; shut = m.open_here }
      where
        by : (As old mid marks marks' v ⊎ Gone side bound old mid marks marks' v) → lowered side (label_of marks' v) bound (potential_of mid v) ≡ lowered side (label_of marks v) bound (potential_of old v)
        by (inl a) = ap₂ (λ (z p : ℤ). lowered side z bound p) a.label a.potential
        by (inr a) = lowered_beyond side (label_of marks' v) bound (potential_of mid v) (omega (arith, ints, a.label)) ∙ a.potential

    elsewhere : (w : ℕ) → (w ≢ v) → Gone side bound old mid marks marks' w → Gone side bound old new marks marks'' w
    elsewhere w ne a = record { potential = c.kept w ne ∙ a.potential; label = m.label_kept w ne ∙ a.label; shut = m.open_kept w ne ∙ a.shut }

    one_of : (w : ℕ) → (w ≢ v) → (As old mid marks marks' w ⊎ Gone side bound old mid marks marks' w) → As old new marks marks'' w ⊎ Gone side bound old new marks marks'' w
    one_of w ne (inl a) = inl (record { potential = c.kept w ne ∙ a.potential; label = m.label_kept w ne ∙ a.label; waits = m.open_kept w ne ∙ a.waits })
    one_of w ne (inr a) = inr (elsewhere w ne a)

    gone_at : (w : ℕ) → Gone side bound old mid marks marks' w → Gone side bound old new marks marks'' w
    gone_at w a = elim (cases_eq w v) [
      | inl e ↦ subst (λ (x : ℕ). Gone side bound old new marks marks'' x) (sym e) here
      | inr ne ↦ elsewhere w ne a
    ]

    pub fallen_more : Fallen listed (k + 1) side bound old new marks marks''
    fallen_more = record {
      either = λ w. elim (cases_eq w v) [
        | inl e ↦ inr (subst (λ (x : ℕ). Gone side bound old new marks marks'' x) (sym e) here)
        | inr ne ↦ one_of w ne (f.either w)
      ];
      gone = λ j l. elim (cases_eq j k) [
        | inl e ↦ subst (λ (x : ℕ). Gone side bound old new marks marks'' (slice_index listed x)) (sym e) here
        | inr ne ↦ gone_at (slice_index listed j) (f.gone j (omega arith))
      ];
      way = λ w. m.way w ∙ f.way w;
      excess = λ w. c.excess w ∙ f.excess w;
      inner = λ w. c.inner w ∙ f.inner w;
    }

  -- what is to be shown where a potential is lowered
  pub label_some : (n : ℕ) (mid : List Cell) (marks' : List Mark) (v : ℕ) → Fallen listed n side bound old mid marks marks' → pos 0 ≤ℤ label_of marks v → pos 0 ≤ℤ label_of marks' v
  label_some n mid marks' v f h = by (f.either v)
    where
      by : (As old mid marks marks' v ⊎ Gone side bound old mid marks marks' v) → pos 0 ≤ℤ label_of marks' v
      by (inl a) = omega (arith, ints, a.label)
      by (inr a) = omega (arith, ints, a.label)

  pub fits : (n : ℕ) (mid : List Cell) (marks' : List Mark) (v : ℕ) → Fallen listed n side bound old mid marks marks' → bound ≤ℤ far → Bounded old → label_of marks' v <ℤ bound →
      nat_abs (potential_of mid v) ≤ 2 ^ 28
  fits n mid marks' v f top b h = by (f.either v)
    where
      by : (As old mid marks marks' v ⊎ Gone side bound old mid marks marks' v) → nat_abs (potential_of mid v) ≤ 2 ^ 28
      by (inl a) = omega (arith, ap nat_abs a.potential, b v)
      by (inr a) = absurd (omega (arith, ints, a.label))
