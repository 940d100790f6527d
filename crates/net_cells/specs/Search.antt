-- A search for cheapest ways from a source, and what it leaves.
use Rattle.std.specs.Prelude.{◌≡◌, ℕ, zero, suc, ◌+◌, ◌*◌, ◌<◌, ◌≤◌, Bool, true, false, ◌⊎◌, ℤ, pos, negsuc, ◌+ℤ◌, ◌-ℤ◌, neg_ℤ, ◌≤ℤ◌, ◌<ℤ◌, ◌≢◌, unsigned_abs}
use Rattle.sums.specs.Sum.{sum_to}
use Rattle.net_cells.specs.Net.{Residual, back, reduced}

-- Labels, and the last step to each cell: way `way v` of cell `from v`. `time` is later for what was labelled later; no code keeps it.
pub record Search : Type 0 where
  pub source : ℕ
  pub target : ℕ
  pub label : ℕ → ℤ
  pub from : ℕ → ℕ
  pub way : ℕ → ℕ
  pub time : ℕ → ℕ
  pub bound : ℤ

-- v got its label by a way from a cell that had its own before
pub record Parent (g : Residual) (k : Search) (v : ℕ) : Type 0 where
  pub inner : g.inner (k.from v) ≡ true
  pub is_way : k.way v < 4
  pub head : g.head (k.from v) (k.way v) ≡ v
  pub least : (k.label (k.from v) +ℤ reduced g (k.from v) (k.way v)) ≤ℤ k.label v
  pub earlier : k.label (k.from v) +ℤ reduced g (k.from v) (k.way v) ≡ k.label v → k.time (k.from v) < k.time v

-- way d of u leads no nearer than the label of its head, or than the bound
abbrev pub Passed : Residual → Search → ℕ → ℕ → Type 0
Passed g k u d =
    (k.label (g.head u d) ≤ℤ (k.label u +ℤ reduced g u d)) ⊎ (k.bound ≤ℤ (k.label u +ℤ reduced g u d))

-- an end: outside, or a cell that lacks something
abbrev pub IsEnd : Residual → ℕ → Type 0
IsEnd g v = (g.inner v ≡ false) ⊎ (g.excess v <ℤ pos 0)

pub record Aimed (g : Residual) (k : Search) : Type 0 where
  pub end : IsEnd g k.target
  pub label : k.label k.target ≡ k.bound

-- Of the cells with labels below the bound those that aren't open have passed them on by all ways; the one in hand by those below `upto`.
pub record Searching (g : Residual) (within far : ℤ) (open_at : ℕ → Bool) (hand upto : ℕ) (k : Search) : Type 0 where
  pub is_inner : g.inner k.source ≡ true
  pub no_label : k.label k.source ≡ pos 0
  pub least : (v : ℕ) → pos 0 ≤ℤ k.label v
  pub parent : (v : ℕ) → (v ≢ k.source) → k.label v <ℤ far → Parent g k v
  pub passed : (u d : ℕ) → g.inner u ≡ true → d < 4 → k.label u <ℤ k.bound → open_at u ≡ false → (u ≡ hand → d < upto) → Passed g k u d
  pub ends : (v : ℕ) → IsEnd g v → k.bound ≤ℤ k.label v
  pub aims : k.bound <ℤ within → Aimed g k
  pub bounded : k.bound ≤ℤ within
  pub near : within ≤ℤ far

-- at its end
pub record Searched (g : Residual) (within far : ℤ) (k : Search) : Type 0 where
  pub is_inner : g.inner k.source ≡ true
  pub no_label : k.label k.source ≡ pos 0
  pub least : (v : ℕ) → pos 0 ≤ℤ k.label v
  pub parent : (v : ℕ) → (v ≢ k.source) → k.label v <ℤ far → Parent g k v
  pub passed : (u d : ℕ) → g.inner u ≡ true → d < 4 → k.label u <ℤ k.bound → Passed g k u d
  pub ends : (v : ℕ) → IsEnd g v → k.bound ≤ℤ k.label v
  pub aims : k.bound <ℤ within → Aimed g k
  pub bounded : k.bound ≤ℤ within
  pub near : within ≤ℤ far

-- v has the label r by way d of u
pub record Relabelled (g : Residual) (u d : ℕ) (k k' : Search) : Type 0 where
  pub label_here : k'.label (g.head u d) ≡ k.label u +ℤ reduced g u d
  pub label_kept : (w : ℕ) → (w ≢ g.head u d) → k'.label w ≡ k.label w
  pub from_here : k'.from (g.head u d) ≡ u
  pub from_kept : (w : ℕ) → (w ≢ g.head u d) → k'.from w ≡ k.from w
  pub way_here : k'.way (g.head u d) ≡ d
  pub way_kept : (w : ℕ) → (w ≢ g.head u d) → k'.way w ≡ k.way w
  pub time_here : k'.time (g.head u d) ≡ suc (k.time u)
  pub time_kept : (w : ℕ) → (w ≢ g.head u d) → k'.time w ≡ k.time w
  pub source : k'.source ≡ k.source

-- way d of u lowers the label of its head: an end that is met sets the bound, all else is open
pub record Relaxed (g : Residual) (u d : ℕ) (was now : ℕ → Bool) (k k' : Search) : Type 0 where
  pub relabelled : Relabelled g u d k k'
  pub end_bound : IsEnd g (g.head u d) → k'.bound ≡ k.label u +ℤ reduced g u d
  pub end_target : IsEnd g (g.head u d) → k'.target ≡ g.head u d
  pub else_bound : (IsEnd g (g.head u d) → ⊥) → k'.bound ≡ k.bound
  pub else_target : (IsEnd g (g.head u d) → ⊥) → k'.target ≡ k.target
  pub else_open : (IsEnd g (g.head u d) → ⊥) → now (g.head u d) ≡ true
  pub open_kept : (w : ℕ) → (w ≢ g.head u d) → now w ≡ was w

-- nothing but the source has a label
pub record Begun (g : Residual) (within far : ℤ) (open_at : ℕ → Bool) (k : Search) : Type 0 where
  pub is_inner : g.inner k.source ≡ true
  pub some : pos 0 <ℤ g.excess k.source
  pub near : within ≤ℤ far
  pub allowed : pos 0 ≤ℤ within
  pub bound : k.bound ≡ within
  pub no_label : k.label k.source ≡ pos 0
  pub blank : (v : ℕ) → (v ≢ k.source) → k.label v ≡ far
  pub open_source : open_at k.source ≡ true

-- potentials lowered by min(label, bound) - bound, and nothing else changed
pub record Lowered (k : Search) (g h : Residual) : Type 0 where
  pub near : (v : ℕ) → k.label v <ℤ k.bound → h.potential v ≡ (g.potential v +ℤ k.label v) -ℤ k.bound
  pub beyond : (v : ℕ) → k.bound ≤ℤ k.label v → h.potential v ≡ g.potential v
  pub inner : (v : ℕ) → h.inner v ≡ g.inner v
  pub head : (u d : ℕ) → h.head u d ≡ g.head u d
  pub cost : (u d : ℕ) → h.cost u d ≡ g.cost u d
  pub excess : (v : ℕ) → h.excess v ≡ g.excess v

-- the last step to v is tight: a unit that goes there costs what the potential grows by
pub record Step (g : Residual) (from way : ℕ → ℕ) (v : ℕ) : Type 0 where
  pub inner : g.inner (from v) ≡ true
  pub is_way : way v < 4
  pub head : g.head (from v) (way v) ≡ v
  pub tight : reduced g (from v) (way v) ≡ pos 0

-- v is n steps from the source, each of them with what P says of where it leads
pub data Track (source : ℕ) (from : ℕ → ℕ) (P : ℕ → Type 0) : ℕ → ℕ → Type 0 where
  start : Track source from P source 0
  step : (v n : ℕ) → (v ≢ source) → P v → Track source from P (from v) n → Track source from P v (suc n)

-- outside is n steps away
abbrev pub Away : Residual → ℕ → ℕ → Type 0
Away g zero u = g.inner u ≡ false
Away g (suc n) u = (g.inner u ≡ true) × ((d : ℕ) × ((d < 4) × Away g n (g.head u d)))

abbrev pub one_for : Bool → ℕ
one_for true = 1
one_for false = 0

-- what is left to do for a search over m cells: it falls with each label that is lowered, and with each cell that is scanned
abbrev pub effort : ℕ → (ℕ → ℤ) → (ℕ → Bool) → ℕ
effort m label open_at = sum_to m (λ v. unsigned_abs (label v) + unsigned_abs (label v) + one_for (open_at v))
