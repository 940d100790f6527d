-- What searches keep. The statements are types whose proofs are owed.
use Rattle.std.specs.Prelude.{◌≡◌, ℕ, suc, ◌+◌, ◌*◌, ◌<◌, ◌≤◌, Bool, true, false, ◌⊎◌, ℤ, pos, ◌+ℤ◌, neg_ℤ, ◌≤ℤ◌, ◌<ℤ◌, ◌≢◌, unsigned_abs}
use Rattle.net_cells.specs.Net.{Residual, Feasible, Ready, back, price, reduced}
use Rattle.net_cells.specs.Search.{Search, Searching, Searched, Passed, Begun, Relaxed, Lowered, Step, Track, Away, effort}
use Rattle.net_cells.specs.Moves.{Fits, Moved}

-- lowering keeps reduced costs at 0 or above, whatever the search found
abbrev pub LoweringKeeps : Type 0
LoweringKeeps = (g h : Residual) (within far : ℤ) (k : Search) → Feasible g → Searched g within far k → Lowered k g h → Feasible h

-- a search that found a target has a way of tight steps to it in the lowered state
abbrev pub FoundTrack : Type 0
FoundTrack =
    (g h : Residual) (within far : ℤ) (k : Search) → Feasible g → Searched g within far k → Lowered k g h → k.bound <ℤ within →
    (n : ℕ) × Track k.source k.from (Step h k.from k.way) k.target n

-- moving along a tight step keeps reduced costs at 0 or above, and costs that are ready
abbrev pub MovingKeeps : Type 0
MovingKeeps =
    (g h : Residual) (flow flow' : ℕ → ℕ → ℤ) (u d : ℕ) (a : ℤ) → Feasible g → Ready g flow → g.inner u ≡ true → d < 4 →
    flow (g.head u d) (back d) ≡ neg_ℤ (flow u d) → reduced g u d ≡ pos 0 → Fits a (flow u d) → Moved u d a g h flow flow' → Feasible h × Ready h flow'

-- where outside is j steps away a search finds something, if its radius is more than twice j prices
abbrev pub AlwaysFinds : Type 0
AlwaysFinds =
    (g : Residual) (within far : ℤ) (k : Search) (top j : ℕ) → Feasible g → Searched g within far k →
    ((u d : ℕ) → g.inner u ≡ true → d < 4 → price g u d ≤ top) → ((u d : ℕ) → g.inner u ≡ true → d < 4 → price g (g.head u d) (back d) ≤ top) →
    Away g j k.source → pos (2 * (top * j)) <ℤ within → k.bound <ℤ within

-- potentials are bounded by the prices of the way to the outside
abbrev pub PotentialsBounded : Type 0
PotentialsBounded =
    (g : Residual) (top j u : ℕ) → Feasible g → ((v d : ℕ) → g.inner v ≡ true → d < 4 → price g v d ≤ top) →
    ((v d : ℕ) → g.inner v ≡ true → d < 4 → price g (g.head v d) (back d) ≤ top) → Away g j u → unsigned_abs (g.potential u) ≤ top * j

-- a search begins as it should
abbrev pub SearchBegins : Type 0
SearchBegins = (g : Residual) (within far : ℤ) (open_at : ℕ → Bool) (k : Search) (hand : ℕ) → Begun g within far open_at k → Searching g within far open_at hand 4 k

-- taking another cell in hand, which is open no more
abbrev pub TakingKeeps : Type 0
TakingKeeps =
    (g : Residual) (within far : ℤ) (was now : ℕ → Bool) (k : Search) (hand u : ℕ) → Searching g within far was hand 4 k →
    ((w : ℕ) → (w ≢ u) → now w ≡ was w) → Searching g within far now u 0 k

-- a way that lowers nothing
abbrev pub PassingKeeps : Type 0
PassingKeeps =
    (g : Residual) (within far : ℤ) (open_at : ℕ → Bool) (k : Search) (u d : ℕ) → Searching g within far open_at u d k → Passed g k u d →
    Searching g within far open_at u (suc d) k

-- a way that lowers a label
abbrev pub RelaxingKeeps : Type 0
RelaxingKeeps =
    (g : Residual) (within far : ℤ) (was now : ℕ → Bool) (k k' : Search) (u d : ℕ) → Feasible g →
    Searching g within far was u d k → g.inner u ≡ true → d < 4 →
    (k.label u +ℤ reduced g u d) <ℤ k.label (g.head u d) → (k.label u +ℤ reduced g u d) <ℤ k.bound →
    Relaxed g u d was now k k' → Searching g within far now u (suc d) k'

-- where nothing below the bound is open the search is at its end
abbrev pub SearchEnds : Type 0
SearchEnds =
    (g : Residual) (within far : ℤ) (open_at : ℕ → Bool) (k : Search) (hand : ℕ) → Searching g within far open_at hand 4 k →
    ((u : ℕ) → g.inner u ≡ true → k.label u <ℤ k.bound → open_at u ≡ false) → Searched g within far k

-- and then less is left to do
abbrev pub RelaxingFalls : Type 0
RelaxingFalls =
    (g : Residual) (within far : ℤ) (was now : ℕ → Bool) (k k' : Search) (u d m : ℕ) → Feasible g →
    Searching g within far was u d k → g.inner u ≡ true → d < 4 → g.head u d < m →
    (k.label u +ℤ reduced g u d) <ℤ k.label (g.head u d) → Relaxed g u d was now k k' → effort m k'.label now < effort m k.label was

-- a cell taken is one open cell less
abbrev pub TakingFalls : Type 0
TakingFalls =
    (label : ℕ → ℤ) (was now : ℕ → Bool) (u m : ℕ) → u < m → was u ≡ true → now u ≡ false → ((w : ℕ) → (w ≢ u) → now w ≡ was w) → effort m label now < effort m label was
