-- What a search leaves once potentials are lowered.
use Rattle.std.proofs.Common.{◌≡◌, ℕ, zero, suc, ◌+◌, ◌<◌, ◌≤◌, ◌⊎◌, Bool, true, false, List, length, ℤ, pos, ◌+ℤ◌, ◌-ℤ◌, ◌≤ℤ◌, ◌<ℤ◌, ◌≢◌, sym, ap, ap₂, ◌∙◌, subst, refl, inl, inr, slice_index, arith}
use Rattle.std.specs.Prelude.{Option, None, Some, IfSome, IfNone}
use lib.Signed.{lt_z}
use Rattle.std.proofs.lemmas.Int.{ints}
use Rattle.std.proofs.lemmas.Bool.{cases_Bool, both_ways, cond-true}
use Rattle.net_cells.specs.Net.{Residual, Feasible, back, reduced}
use Rattle.net_cells.specs.Search.{Search, Searched, Lowered, Step, Track, start, step, IsEnd}
use Rattle.net_cells.specs.Lists.{view, signed, head, inner_of, excess_of, excess_in, potential_of, potential_in}
use Rattle.net_cells.specs.Fenced.{Fenced}
use Rattle.net_cells.specs.declared.cell.Cell.{Cell}
use Rattle.net_cells.specs.declared.cell.Costs.{Costs}
use Rattle.net_cells.specs.declared.cell.Mark.{Mark}
use Rattle.net_cells.specs.declared.side.Side.{Side}
use Rattle.net_cells_theory.proofs.Edge.{cases_lt_ℤ}
use Rattle.net_cells_theory.proofs.Lower.{lowering_keeps}
use Rattle.net_cells_theory.proofs.Found.{found_track}
use Rattle.net_cells_theory.proofs.Tracks.{renamed}
use Rattle.net_cells_theory.proofs.Fences.{signed_more, head_within, always}
use Rattle.net_cells_search.specs.Marks.{far, label_of, way_of, open_of, Blank}
use Rattle.net_cells_search.specs.Lower.{lowered, As, Gone, Fallen}
use Rattle.net_cells_search.specs.Room.{search, from_of, Stopped, RoomFor, Led, Kept}
use Rattle.net_cells_search.specs.declared.room.Room.{Room}
use Rattle.net_cells_search.proofs.Lowering.{lowered_beyond}

lowered_near : (side : Side) (label bound p : ℤ) → label <ℤ bound → lowered side label bound p ≡ p +ℤ signed side.back (label -ℤ bound)
lowered_near side label bound p h = cond-true (lt_z label bound) (p +ℤ signed side.back (label -ℤ bound)) p (grind (arith, ints))

module _ (cells cells' : List Cell) (costs : List Costs) (side : Side) (r : Room) (marks' : List Mark) (w : Feasible (view cells costs side)) (s : Stopped (view cells costs side) r)
    (f : Fallen r.touched.now r.count side r.bound cells cells' r.marks.now marks') where
  abbrev g : Residual
  g = view cells costs side

  abbrev h : Residual
  h = view cells' costs side

  gone_at : (v : ℕ) → label_of r.marks.now v <ℤ far → Gone side r.bound cells cells' r.marks.now marks' v
  gone_at v l = let c = s.tidy.covered v l in subst (λ (x : ℕ). Gone side r.bound cells cells' r.marks.now marks' x) c.1.1 (f.gone c.0 c.1.0)

  pub blank : Blank marks'
  blank = record {
    label = λ v. elim (cases_lt_ℤ (label_of r.marks.now v) far) [ inl l ↦ (gone_at v l).label | inr l ↦ label v l (f.either v) ];
    shut = λ v. elim (cases_lt_ℤ (label_of r.marks.now v) far) [ inl l ↦ (gone_at v l).shut | inr l ↦ shut v l (f.either v) ];
  }
    where
      label : (v : ℕ) → far ≤ℤ label_of r.marks.now v → (As cells cells' r.marks.now marks' v ⊎ Gone side r.bound cells cells' r.marks.now marks' v) → label_of marks' v ≡ far
      label v l (inl a) = omega (arith, ints, a.label, s.tidy.top v)
      label v l (inr a) = a.label

      shut : (v : ℕ) → far ≤ℤ label_of r.marks.now v → (As cells cells' r.marks.now marks' v ⊎ Gone side r.bound cells cells' r.marks.now marks' v) → open_of marks' v ≡ false
      shut v l (inr a) = a.shut
      shut v l (inl a) = elim (cases_Bool (open_of r.marks.now v)) [
        | inl o ↦ absurd (omega (arith, ints, s.tidy.met v o))
        | inr o ↦ a.waits ∙ o
      ]

  lowers : (time : ℕ → ℕ) → Lowered (search g r time) g h
  unfolding potential_in excess_in
  lowers time = record {
    near = λ v l. near v l (gone_at v (omega (arith, ints, s.searched.bounded, s.searched.near)));
    beyond = λ v l. beyond v l (f.either v);
    inner = f.inner;
    head = λ u d. refl;
    cost = λ u d. refl;
    excess = λ v. ap (signed side.back) (f.excess v);
  }
    where
      near : (v : ℕ) → label_of r.marks.now v <ℤ r.bound → Gone side r.bound cells cells' r.marks.now marks' v →
          signed side.back (potential_of cells' v) ≡ (signed side.back (potential_of cells v) +ℤ label_of r.marks.now v) -ℤ r.bound
      near v l a =
          omega (
            arith,
            ints,
            ap (signed side.back) (a.potential ∙ lowered_near side (label_of r.marks.now v) r.bound (potential_of cells v) l),
            signed_more side.back (potential_of cells v) (label_of r.marks.now v -ℤ r.bound),
          )

      beyond : (v : ℕ) → r.bound ≤ℤ label_of r.marks.now v → (As cells cells' r.marks.now marks' v ⊎ Gone side r.bound cells cells' r.marks.now marks' v) →
          signed side.back (potential_of cells' v) ≡ signed side.back (potential_of cells v)
      beyond v l (inl a) = ap (signed side.back) a.potential
      beyond v l (inr a) = ap (signed side.back) (a.potential ∙ lowered_beyond side (label_of r.marks.now v) r.bound (potential_of cells v) l)

  pub learnt : Feasible h
  learnt = lowering_keeps g h r.within far (search g r s.time) w s.searched (lowers s.time)

  from_is : (v : ℕ) → from_of h marks' v ≡ from_of g r.marks.now v
  from_is v = ap (λ (e : ℕ). head side.stride v (back e)) (f.way v)

  pub led : r.bound <ℤ r.within → Led h marks' r.source r.target
  led b =
      let t = found_track g h r.within far (search g r s.time) w s.searched (lowers s.time) b in (
        t.0,
        renamed r.source (from_of g r.marks.now) (from_of h marks') (Step h (from_of g r.marks.now) (way_of r.marks.now)) (Step h (from_of h marks') (way_of marks')) r.target t.0 from_is steps t.1,
      )
    where
      steps : (x : ℕ) → Step h (from_of g r.marks.now) (way_of r.marks.now) x → Step h (from_of h marks') (way_of marks') x
      steps x p = record {
        inner = rw (from_is x) p.inner;
        is_way = rw (f.way x) p.is_way;
        head = ap₂ h.head (from_is x) (f.way x) ∙ p.head;
        tight = ap₂ (reduced h) (from_is x) (f.way x) ∙ p.tight;
      }

  pub is_end : r.bound <ℤ r.within → IsEnd h r.target
  unfolding excess_in
  is_end b = by (s.searched.aims b).end
    where
      by : IsEnd g r.target → IsEnd h r.target
      by (inl i) = inl (f.inner r.target ∙ i)
      by (inr e) = inr (rw (f.excess r.target) e)

  pub kept : Kept cells cells'
  kept = record { excess = f.excess; inner = f.inner }

pub target_less : (cells : List Cell) (costs : List Costs) (side : Side) (marks : List Mark) (source v : ℕ) → Fenced cells costs side → source < length cells → Led (view cells costs side) marks source v → v < length cells
target_less cells costs side marks source v f l (zero, start) = l
target_less cells costs side marks source v f l (suc n, step v' n' ne p t) =
    subst (λ (x : ℕ). x < length cells) p.head (head_within cells costs side (from_of (view cells costs side) marks v) (way_of marks v) f p.inner)

-- where it looks everywhere something is found
pub finds : (cells : List Cell) (costs : List Costs) (side : Side) (r : Room) → Fenced cells costs side → Feasible (view cells costs side) → Stopped (view cells costs side) r → r.within ≡ far → r.bound <ℤ r.within
finds cells costs side r f w s e = always cells costs side f r.within far (search (view cells costs side) r s.time) w s.searched e

pub some_of : (o : Option ℕ) (v : ℕ) (B : Type 0) (Q : ℕ → Type 0) → IfSome o (λ t. t ≡ v) → IfSome o (λ _. B) → (B → Q v) → IfSome o Q
some_of None v B Q a b f = tt
some_of (Some t) v B Q a b f = subst Q (sym a) (f b)

pub none_of : (o : Option ℕ) (B Q : Type 0) → IfNone o B → (B → Q) → IfNone o Q
none_of None B Q b f = f b
none_of (Some t) B Q b f = tt
