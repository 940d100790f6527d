-- What relaxing writes is a step of the search.
use Rattle.std.proofs.Common.{◌≡◌, ℕ, suc, ◌+◌, ◌<◌, ◌≤◌, ◌⊎◌, Bool, true, false, cond, eqb, List, length, ℤ, pos, ◌+ℤ◌, ◌-ℤ◌, ◌≤ℤ◌, ◌<ℤ◌, ◌≢◌, sym, ap, ap₂, ◌∙◌, subst, refl, inl, inr, slice_index, arith}
use Rattle.std.proofs.lemmas.Int.{ints}
use Rattle.std.proofs.lemmas.Bool.{cases_eq, cases_Bool, both_ways, eq-eqb, ne_eqb, cond-true, cond-false}
use Rattle.sums.proofs.Sum.{sum_ext}
use Rattle.net_cells.specs.Net.{Residual, Feasible, back, reduced}
use Rattle.net_cells.specs.Search.{Search, Searching, Searched, Parent, Passed, Aimed, IsEnd, Relabelled, Relaxed, Begun, effort}
use Rattle.net_cells.specs.Lists.{view, inner_of, excess_in}
use Rattle.net_cells.specs.declared.cell.Cell.{Cell}
use Rattle.net_cells.specs.declared.cell.Costs.{Costs}
use Rattle.net_cells.specs.declared.side.Side.{Side}
use Rattle.net_cells_theory.proofs.Loop.{search_begins, taking_keeps, passing_keeps, relaxing_keeps, search_ends}
use Rattle.net_cells_theory.proofs.Falls.{relaxing_falls, taking_falls, share}
use Rattle.net_cells_search.specs.Marks.{far, label_of, way_of, open_of, IsLower, Shut, NoneOpen, Tidy, Blank}
use Rattle.net_cells_search.specs.Room.{search, from_of, Going, Stopped, RoomFor, SameTask, Taken, Chosen, Idle, Started, effort_of}
use Rattle.net_cells_search.specs.declared.room.Room.{Room}
use Rattle.net_cells_search.proofs.Tidying.{tidy_more, tidy_none, tidy_shut}

-- a way that lowers nothing
pub passed : (g : Residual) (u d : ℕ) (r : Room) (z : ℤ) → z ≡ label_of r.marks.now u +ℤ reduced g u d → (label_of r.marks.now (g.head u d) ≤ℤ z) ⊎ (r.bound ≤ℤ z) → Going g u d r → Going g u (suc d) r
passed g u d r z is far_off s =
    record { time = s.time; searching = passing_keeps g r.within far (open_of r.marks.now) (search g r s.time) u d s.searching (by far_off); inner = s.inner; tidy = s.tidy }
  where
    by : (label_of r.marks.now (g.head u d) ≤ℤ z) ⊎ (r.bound ≤ℤ z) → (label_of r.marks.now (g.head u d) ≤ℤ (label_of r.marks.now u +ℤ reduced g u d)) ⊎ (r.bound ≤ℤ (label_of r.marks.now u +ℤ reduced g u d))
    by (inl h) = inl (omega (arith, ints))
    by (inr h) = inr (omega (arith, ints))

module _ (cells : List Cell) (costs : List Costs) (side : Side) (u d : ℕ) (z : ℤ) (old new : Room)
    (w : Feasible (view cells costs side)) (inner : inner_of cells u ≡ true) (l : d < 4) (is : z ≡ label_of old.marks.now u +ℤ reduced (view cells costs side) u d)
    (lower : IsLower old.marks.now ((view cells costs side).head u d) old.bound z) (t : Taken cells side ((view cells costs side).head u d) d z old new) (same : SameTask old new)
    (here : RoomFor (length cells) old) (there : RoomFor (length cells) new) (within : (view cells costs side).head u d < length cells) (s : Going (view cells costs side) u d old) where
  abbrev g : Residual
  g = view cells costs side

  abbrev v : ℕ
  v = g.head u d

  abbrev time' : ℕ → ℕ
  time' x = cond (eqb x v) (suc (s.time u)) (s.time x)

  relabelled : Relabelled g u d (search g old s.time) (search g new time')
  relabelled = record {
    label_here = t.label_here ∙ is;
    label_kept = t.label_kept;
    from_here = ap (λ (e : ℕ). g.head v (back e)) t.way_here ∙ w.paired.home u d inner l;
    from_kept = λ x ne. ap (λ (e : ℕ). g.head x (back e)) (t.way_kept x ne);
    way_here = t.way_here;
    way_kept = t.way_kept;
    time_here = cond-true (eqb v v) (suc (s.time u)) (s.time v) (eq-eqb v v refl);
    time_kept = λ x ne. cond-false (eqb x v) (suc (s.time u)) (s.time x) (ne_eqb x v ne);
    source = same.source;
  }

  ended : IsEnd g v → open_of new.marks.now v ≡ false
  ended e = elim (cases_Bool (open_of new.marks.now v)) [
    | inl y ↦ absurd (not_end y e)
    | inr y ↦ y
  ]
    where
      not_end : open_of new.marks.now v ≡ true → IsEnd g v → ⊥
      not_end y (inl i) = both_ways (inner_of cells v) i (t.inner y)
      not_end y (inr i) = absurd (omega (arith, ints, t.full y))

  waiting : (IsEnd g v → ⊥) → open_of new.marks.now v ≡ true
  waiting e = elim (cases_Bool (open_of new.marks.now v)) [
    | inl y ↦ y
    | inr y ↦ absurd (e (t.end y))
  ]

  relaxed : Relaxed g u d (open_of old.marks.now) (open_of new.marks.now) (search g old s.time) (search g new time')
  relaxed = record {
    relabelled = relabelled;
    end_bound = λ e. t.end_bound (ended e) ∙ is;
    end_target = λ e. t.end_target (ended e);
    else_bound = λ e. t.else_bound (waiting e);
    else_target = λ e. t.else_target (waiting e);
    else_open = waiting;
    open_kept = t.open_kept;
  }

  lengths : length new.marks.now ≡ length old.marks.now
  lengths = there.marks ∙ sym here.marks

  low : z <ℤ far
  low = omega (arith, ints, lower.nearer, s.tidy.top v)

  pub took : Going g u (suc d) new
  took = record {
    time = time';
    searching =
        subst (λ (b : ℤ). Searching g b far (open_of new.marks.now) u (suc d) (search g new time')) (sym same.within)
        (relaxing_keeps g old.within far (open_of old.marks.now) (open_of new.marks.now) (search g old s.time) (search g new time') u d w s.searching inner l
        (omega (arith, ints, is, lower.nearer)) (omega (arith, ints, is, lower.below)) relaxed);
    inner = λ x o. elim (cases_eq x v) [
      | inl e ↦ subst (λ (y : ℕ). inner_of cells y ≡ true) (sym e) (t.inner (subst (λ (y : ℕ). open_of new.marks.now y ≡ true) e o))
      | inr ne ↦ s.inner x (sym (t.open_kept x ne) ∙ o)
    ];
    tidy = tidy_more old.marks.now new.marks.now old.touched.now new.touched.now old.count new.count v z s.tidy t.listed (omega (arith, here.marks)) lengths low t.label_here t.label_kept t.open_kept;
  }

  pub falls : effort_of new < effort_of old
  falls =
      rw lengths (relaxing_falls g old.within far (open_of old.marks.now) (open_of new.marks.now) (search g old s.time) (search g new time') u d (length old.marks.now) w s.searching inner l
      (omega (arith, here.marks)) (omega (arith, ints, is, lower.nearer)) relaxed)

-- with all its ways passed any cell may be the one in hand
pub any_hand : (g : Residual) (u h : ℕ) (r : Room) → Going g u 4 r → Going g h 4 r
any_hand g u h r s = record {
  time = s.time;
  searching = record {
    is_inner = s.searching.is_inner;
    no_label = s.searching.no_label;
    least = s.searching.least;
    parent = s.searching.parent;
    passed = λ x d i l b o _. s.searching.passed x d i l b o (λ _. l);
    ends = s.searching.ends;
    aims = s.searching.aims;
    bounded = s.searching.bounded;
    near = s.searching.near;
  };
  inner = s.inner;
  tidy = s.tidy;
}

-- the same, where the cell is named by its number
module _ (cells : List Cell) (costs : List Costs) (side : Side) (u d v : ℕ) (z : ℤ) (old new : Room)
    (w : Feasible (view cells costs side)) (inner : inner_of cells u ≡ true) (l : d < 4) (is : z ≡ label_of old.marks.now u +ℤ reduced (view cells costs side) u d)
    (at : v ≡ (view cells costs side).head u d) (lower : IsLower old.marks.now v old.bound z) (t : Taken cells side v d z old new) (same : SameTask old new)
    (here : RoomFor (length cells) old) (there : RoomFor (length cells) new) (within : v < length cells) (s : Going (view cells costs side) u d old) where
  pub took_at : Going (view cells costs side) u (suc d) new
  took_at =
      took cells costs side u d z old new w inner l is (subst (λ (x : ℕ). IsLower old.marks.now x old.bound z) at lower) (subst (λ (x : ℕ). Taken cells side x d z old new) at t) same here there
      (subst (λ (x : ℕ). x < length cells) at within) s

  pub falls_at : effort_of new < effort_of old
  falls_at =
      falls cells costs side u d z old new w inner l is (subst (λ (x : ℕ). IsLower old.marks.now x old.bound z) at lower) (subst (λ (x : ℕ). Taken cells side x d z old new) at t) same here there
      (subst (λ (x : ℕ). x < length cells) at within) s

  pub own : label_of new.marks.now u ≡ label_of old.marks.now u
  own = t.label_kept u (λ e. w.paired.apart u d inner l (sym (e ∙ at)))

-- what the search says depends on its marks, and not on its queue
pub unchanged_going : (g : Residual) (h u : ℕ) (old new : Room) → (new.marks.now ≡ old.marks.now) → (new.touched.now ≡ old.touched.now) → new.count ≡ old.count → new.source ≡ old.source → new.within ≡ old.within →
    new.bound ≡ old.bound → new.target ≡ old.target → Going g h u old → Going g h u new
unchanged_going g h u old new m t n s w b a k = record {
  time = k.time;
  searching = rw m (rw s (rw w (rw b (rw a k.searching))));
  inner = rw m k.inner;
  tidy = rw m (rw t (rw n k.tidy));
}

-- a cell is taken in hand
module _ (g : Residual) (u : ℕ) (old new : Room) (c : Chosen u old new) (same : length new.marks.now ≡ length old.marks.now) (k : Going g 0 4 old) where
  waits : (w : ℕ) → open_of new.marks.now w ≡ true → open_of old.marks.now w ≡ true
  waits w o = elim (cases_eq w u) [
    | inl e ↦ ap (open_of old.marks.now) e ∙ c.waits
    | inr ne ↦ sym (c.shut.open_kept w ne) ∙ o
  ]

  same_search : (time : ℕ → ℕ) → Searching g old.within far (open_of new.marks.now) u 0 (search g old time) → Searching g new.within far (open_of new.marks.now) u 0 (search g new time)
  same_search time s = record {
    is_inner = rw c.source s.is_inner;
    no_label = rw c.source (c.shut.label old.source ∙ s.no_label);
    least = λ v. omega (arith, ints, c.shut.label v, s.least v);
    parent = λ v ne l. parent v (s.parent v (λ e. ne (e ∙ sym c.source)) (omega (arith, ints, c.shut.label v)));
    passed = λ x d i l b o f. passes x d (s.passed x d i l (omega (arith, ints, c.shut.label x, c.bound)) o f);
    ends = λ v e. omega (arith, ints, c.shut.label v, c.bound, s.ends v e);
    aims = λ l. aims (s.aims (omega (arith, ints, c.bound, c.within)));
    bounded = omega (arith, ints, c.bound, c.within, s.bounded);
    near = omega (arith, ints, c.within, s.near);
  }
    where
      from_is : (v : ℕ) → from_of g new.marks.now v ≡ from_of g old.marks.now v
      from_is v = ap (λ (e : ℕ). g.head v (back e)) (c.shut.way v)

      parent : (v : ℕ) → Parent g (search g old time) v → Parent g (search g new time) v
      parent v p = record {
        inner = rw (from_is v) p.inner;
        is_way = rw (c.shut.way v) p.is_way;
        head = ap₂ g.head (from_is v) (c.shut.way v) ∙ p.head;
        least = omega (arith, ints, p.least, c.shut.label v, c.shut.label (from_of g new.marks.now v), ap (label_of old.marks.now) (from_is v), ap₂ (reduced g) (from_is v) (c.shut.way v));
        earlier = λ e.
            omega (
              arith,
              ap time (from_is v),
              p.earlier (omega (arith, ints, e, c.shut.label v, c.shut.label (from_of g new.marks.now v), ap (label_of old.marks.now) (from_is v), ap₂ (reduced g) (from_is v) (c.shut.way v))),
            );
      }

      passes : (x d : ℕ) → Passed g (search g old time) x d → Passed g (search g new time) x d
      passes x d (inl l) = inl (omega (arith, ints, c.shut.label x, c.shut.label (g.head x d)))
      passes x d (inr l) = inr (omega (arith, ints, c.shut.label x, c.bound))

      aims : Aimed g (search g old time) → Aimed g (search g new time)
      aims a = record { end = rw c.target a.end; label = rw c.target (rw c.bound (c.shut.label old.target ∙ a.label)) }

  pub in_hand : Going g u 0 new
  in_hand = record {
    time = k.time;
    searching = same_search k.time (taking_keeps g old.within far (open_of old.marks.now) (open_of new.marks.now) (search g old k.time) 0 u k.searching c.shut.open_kept);
    inner = λ w o. k.inner w (waits w o);
    tidy = rw c.count (rw c.touched (tidy_shut old.marks.now new.marks.now old.touched.now old.count same c.shut.label waits k.tidy));
  }

  pub in_hand_falls : effort_of new < effort_of old
  in_hand_falls =
      rw same (omega (
        arith,
        taking_falls (label_of old.marks.now) (open_of old.marks.now) (open_of new.marks.now) u (length old.marks.now) c.cell c.waits c.shut.open_here c.shut.open_kept,
        sum_ext (length old.marks.now) (λ v. share (label_of new.marks.now v) (open_of new.marks.now v)) (λ v. share (label_of old.marks.now v) (open_of new.marks.now v))
            (λ v _. ap (λ (z : ℤ). share z (open_of new.marks.now v)) (c.shut.label v)),
      ))

-- none waits any more
pub at_its_end : (g : Residual) (old new : Room) → Idle old new → Going g 0 4 old → Stopped g new
at_its_end g old new i k = stop (unchanged_going g 0 4 old new i.unchanged.marks i.unchanged.touched i.unchanged.count i.unchanged.source i.unchanged.within i.unchanged.bound i.unchanged.target k)
  where
    none : NoneOpen new.marks.now new.touched.now new.count new.bound
    none = rw i.unchanged.marks (rw i.unchanged.touched (rw i.unchanged.count (rw i.unchanged.bound i.none)))

    stop : Going g 0 4 new → Stopped g new
    stop s = record { time = s.time; searched = search_ends g new.within far (open_of new.marks.now) (search g new s.time) 0 s.searching (λ u _ l. shut u l (cases_Bool (open_of new.marks.now u))); tidy = s.tidy }
      where
        shut : (u : ℕ) → label_of new.marks.now u <ℤ new.bound → ((open_of new.marks.now u ≡ true) ⊎ (open_of new.marks.now u ≡ false)) → open_of new.marks.now u ≡ false
        shut u l (inr o) = o
        shut u l (inl o) =
            let c = s.tidy.covered u (omega (arith, ints, s.searching.bounded, s.searching.near)) in
            absurd (omega (arith, ints, none c.0 c.1.0 (ap (open_of new.marks.now) c.1.1 ∙ o), ap (label_of new.marks.now) c.1.1))

-- at the beginning
pub at_first : (cells : List Cell) (costs : List Costs) (side : Side) (source : ℕ) (within : ℤ) (old new : Room) → Blank old.marks.now → RoomFor (length cells) old → RoomFor (length cells) new →
    Started source within old new → inner_of cells source ≡ true → source < length cells → pos 0 <ℤ excess_in cells side source → pos 0 ≤ℤ within → within ≤ℤ far → Going (view cells costs side) 0 4 new
at_first cells costs side source within old new b here there s i room e p q = record {
  time = λ _. 0;
  searching =
      search_begins (view cells costs side) new.within far (open_of new.marks.now) (search (view cells costs side) new (λ _. 0)) 0
      (record {
        is_inner = rw s.is_source i;
        some = rw s.is_source e;
        near = omega (arith, ints, s.is_within);
        allowed = omega (arith, ints, s.is_within);
        bound = s.bound ∙ sym s.is_within;
        no_label = ap (label_of new.marks.now) s.is_source ∙ s.marked.label_here;
        blank = λ v ne. s.marked.label_kept v (λ z. ne (z ∙ sym s.is_source)) ∙ b.label v;
        open_source = ap (open_of new.marks.now) s.is_source ∙ s.marked.open_here;
      });
  inner = λ v o. elim (cases_eq v source) [
    | inl z ↦ ap (inner_of cells) z ∙ i
    | inr ne ↦ absurd (both_ways (open_of old.marks.now v) (b.shut v) (sym (s.marked.open_kept v ne) ∙ o))
  ];
  tidy =
      tidy_more old.marks.now new.marks.now old.touched.now new.touched.now 0 new.count source (pos 0) (tidy_none old.marks.now old.touched.now b) s.listed (omega (arith, here.marks)) (there.marks ∙ sym here.marks)
      (omega (arith, ints)) s.marked.label_here s.marked.label_kept s.marked.open_kept;
}
