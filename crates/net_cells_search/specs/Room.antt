-- What a room says of a search.
use Rattle.std.specs.Prelude.{◌≡◌, ℕ, ◌+◌, ◌<◌, ◌≤◌, Bool, true, false, List, length, ℤ, pos, ◌≤ℤ◌, ◌<ℤ◌, ◌≢◌, ◌⊎◌, []}
use Rattle.net_cells.specs.Net.{Residual, back}
use Rattle.net_cells.specs.Search.{Search, Searching, Searched, Step, Track, effort}
use Rattle.net_cells_search.specs.Marks.{far, label_of, way_of, open_of, Tidy, Listed, Marked, Shut, NoneOpen}
use Rattle.net_cells.specs.Search.{IsEnd}
use Rattle.net_cells.specs.Lists.{view, inner_of, excess_of, excess_in}
use Rattle.net_cells.specs.declared.cell.Cell.{Cell}
use Rattle.net_cells.specs.declared.cell.Mark.{Mark}
use Rattle.net_cells.specs.declared.side.Side.{Side}
use Rattle.net_cells.specs.declared.way.Way.TheVariants.{Right}
use Rattle.net_cells_search.specs.declared.room.Room.{Room}

-- the cell from which the last step to v was taken
abbrev pub from_of : Residual → List Mark → ℕ → ℕ
from_of g marks v = g.head v (back (way_of marks v))

abbrev pub search : Residual → Room → (ℕ → ℕ) → Search
search g r time = record {
  source = r.source;
  target = r.target;
  label = label_of r.marks.now;
  from = from_of g r.marks.now;
  way = way_of r.marks.now;
  time = time;
  bound = r.bound;
}

-- a search of which cell `hand` has passed its label on by the ways below `upto`
pub record Going (g : Residual) (hand upto : ℕ) (r : Room) : Type 0 where
  pub time : ℕ → ℕ
  pub searching : Searching g r.within far (open_of r.marks.now) hand upto (search g r time)
  pub inner : (v : ℕ) → open_of r.marks.now v ≡ true → g.inner v ≡ true
  pub tidy : Tidy r.marks.now r.touched.now r.count

-- a search at its end
pub record Stopped (g : Residual) (r : Room) : Type 0 where
  pub time : ℕ → ℕ
  pub searched : Searched g r.within far (search g r time)
  pub tidy : Tidy r.marks.now r.touched.now r.count

-- a room for n cells
pub record RoomFor (n : ℕ) (r : Room) : Type 0 where
  pub marks : length r.marks.now ≡ n
  pub touched : n < length r.touched.now

abbrev pub effort_of : Room → ℕ
effort_of r = effort (length r.marks.now) (label_of r.marks.now) (open_of r.marks.now)

-- where a search begins and how far it looks stays
pub record SameTask (r r' : Room) : Type 0 where
  pub source : r'.source ≡ r.source
  pub within : r'.within ≡ r.within

-- a way of tight steps from the source to v
abbrev pub Led : Residual → List Mark → ℕ → ℕ → Type 0
Led g marks source v = (n : ℕ) × Track source (from_of g marks) (Step g (from_of g marks) (way_of marks)) v n

-- cell v has a label, and sets the bound if it is an end; else it waits
pub record Taken (cells : List Cell) (side : Side) (v d : ℕ) (r : ℤ) (old new : Room) : Type 0 where
  pub label_here : label_of new.marks.now v ≡ r
  pub label_kept : (w : ℕ) → (w ≢ v) → label_of new.marks.now w ≡ label_of old.marks.now w
  pub way_here : way_of new.marks.now v ≡ d
  pub way_kept : (w : ℕ) → (w ≢ v) → way_of new.marks.now w ≡ way_of old.marks.now w
  pub open_kept : (w : ℕ) → (w ≢ v) → open_of new.marks.now w ≡ open_of old.marks.now w
  pub end : open_of new.marks.now v ≡ false → (inner_of cells v ≡ false) ⊎ (excess_in cells side v <ℤ pos 0)
  pub end_bound : open_of new.marks.now v ≡ false → new.bound ≡ r
  pub end_target : open_of new.marks.now v ≡ false → new.target ≡ v
  pub inner : open_of new.marks.now v ≡ true → inner_of cells v ≡ true
  pub full : open_of new.marks.now v ≡ true → pos 0 ≤ℤ excess_in cells side v
  pub else_bound : open_of new.marks.now v ≡ true → new.bound ≡ old.bound
  pub else_target : open_of new.marks.now v ≡ true → new.target ≡ old.target
  pub listed : Listed (label_of old.marks.now v) old.touched.now new.touched.now old.count new.count v

-- nothing but the queue has changed
pub record Unchanged (old new : Room) : Type 0 where
  pub marks : new.marks.now ≡ old.marks.now
  pub touched : new.touched.now ≡ old.touched.now
  pub count : new.count ≡ old.count
  pub source : new.source ≡ old.source
  pub within : new.within ≡ old.within
  pub bound : new.bound ≡ old.bound
  pub target : new.target ≡ old.target

-- nothing but the source has a label, and it waits
pub record Started (source : ℕ) (within : ℤ) (old new : Room) : Type 0 where
  pub marked : Marked old.marks.now new.marks.now source (record { label = pos 0; way = Right; waits = true })
  pub listed : Listed (label_of old.marks.now source) old.touched.now new.touched.now 0 new.count source
  pub is_source : new.source ≡ source
  pub is_within : new.within ≡ within
  pub bound : new.bound ≡ within

-- cell u waited nearer than the bound, and waits no more
pub record Chosen (u : ℕ) (old new : Room) : Type 0 where
  pub cell : u < length old.marks.now
  pub waits : open_of old.marks.now u ≡ true
  pub near : label_of old.marks.now u <ℤ old.bound
  pub shut : Shut old.marks.now new.marks.now u
  pub touched : new.touched.now ≡ old.touched.now
  pub count : new.count ≡ old.count
  pub source : new.source ≡ old.source
  pub within : new.within ≡ old.within
  pub bound : new.bound ≡ old.bound
  pub target : new.target ≡ old.target

-- no listed cell waits nearer than the bound
pub record Idle (old new : Room) : Type 0 where
  pub none : NoneOpen old.marks.now old.touched.now old.count old.bound
  pub unchanged : Unchanged old new

-- cells keep what they have in excess, and which of them are inner
pub record Kept (old new : List Cell) : Type 0 where
  pub excess : (v : ℕ) → excess_of new v ≡ excess_of old v
  pub inner : (v : ℕ) → inner_of new v ≡ inner_of old v
