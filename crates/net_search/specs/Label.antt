-- Labels of nodes, and the lists of the nodes that have them.
use Rattle.std.specs.Prelude.{◌≡◌, ℕ, ◌+◌, ◌^◌, ◌<◌, ◌≤◌, if◌then◌else◌, List, ℤ, pos, ◌≤ℤ◌, ◌<ℤ◌, ◌≢◌, ◌⊎◌, int_lt, slice_index, slice_index_or}
use Rattle.sums.specs.Sum.{sum_to}
use Rattle.net_search.specs.declared.label.Label.{Label}

-- what is read past the end of a list of labels
abbrev pub unknown_label : Label
unknown_label = record { distance = pos 0; pred = 0; place = 0 }

abbrev pub distance_of : List Label → ℕ → ℤ
distance_of labels v = (slice_index_or labels v unknown_label).distance

abbrev pub pred_of : List Label → ℕ → ℕ
pred_of labels v = (slice_index_or labels v unknown_label).pred

abbrev pub place_of : List Label → ℕ → ℕ
place_of labels v = (slice_index_or labels v unknown_label).place

-- the distance of a node that is not labelled
abbrev pub infinity : ℤ
infinity = pos (2 ^ 62)

-- 1 for a node that is not labelled
abbrev pub unlabelled : ℤ → ℕ
unlabelled z = if int_lt z infinity then 0 else 1

-- The lists say what the labels and the places say: a labelled node is reached or waits on the frontier, no node waits twice,
-- and the place of a node that is not reached is n. By `count` the frontier is long enough for one more.
pub record Listed (n : ℕ) (distance : ℕ → ℤ) (place order frontier : ℕ → ℕ) (reached waiting : ℕ) : Type 0 where
  pub ordered : (k : ℕ) → k < reached → order k < n
  pub back : (k : ℕ) → k < reached → place (order k) ≡ k
  pub there : (v : ℕ) → v < n → place v < reached → order (place v) ≡ v
  pub beyond : (v : ℕ) → v < n → reached ≤ place v → place v ≡ n
  pub node : (k : ℕ) → k < waiting → frontier k < n
  pub late : (k : ℕ) → k < waiting → reached ≤ place (frontier k)
  pub labelled : (k : ℕ) → k < waiting → distance (frontier k) <ℤ infinity
  pub once : (j k : ℕ) → j < waiting → k < waiting → frontier j ≡ frontier k → j ≡ k
  pub complete : (v : ℕ) → v < n → distance v <ℤ infinity → reached ≤ place v → ((k : ℕ) → k < waiting → (frontier k ≢ v)) → ⊥
  pub finite : (v : ℕ) → v < n → place v < reached → distance v <ℤ infinity
  pub count : (reached + waiting) + sum_to n (λ v. unlabelled (distance v)) ≡ n

-- a node that is not labelled
pub record IsUnlabelled (n : ℕ) (m : Label) : Type 0 where
  pub distance : m.distance ≡ infinity
  pub place : m.place ≡ n

-- no node is labelled
pub record AllUnlabelled (n : ℕ) (labels : List Label) : Type 0 where
  pub distance : (v : ℕ) → v < n → infinity ≤ℤ distance_of labels v
  pub place : (v : ℕ) → v < n → place_of labels v ≡ n

-- node v loses its label
pub record Unlabelled (n : ℕ) (old new : List Label) (v : ℕ) : Type 0 where
  pub distance_here : distance_of new v ≡ infinity
  pub distance_kept : (w : ℕ) → (w ≢ v) → distance_of new w ≡ distance_of old w
  pub place_here : place_of new v ≡ n
  pub place_kept : (w : ℕ) → (w ≢ v) → place_of new w ≡ place_of old w

-- the first k of the list lose their labels, all others keep theirs
pub record Forgotten (n : ℕ) (nodes : List ℕ) (k : ℕ) (old new : List Label) : Type 0 where
  pub distance : (v : ℕ) → (infinity ≤ℤ distance_of new v) ⊎ (distance_of new v ≡ distance_of old v)
  pub place : (v : ℕ) → (place_of new v ≡ n) ⊎ (place_of new v ≡ place_of old v)
  pub distance_here : (j : ℕ) → j < k → infinity ≤ℤ distance_of new (slice_index nodes j)
  pub place_here : (j : ℕ) → j < k → place_of new (slice_index nodes j) ≡ n

-- node v has the label d by arc a
pub record Relabelled (old new : List Label) (v a : ℕ) (d : ℤ) : Type 0 where
  pub distance_here : distance_of new v ≡ d
  pub distance_kept : (w : ℕ) → (w ≢ v) → distance_of new w ≡ distance_of old w
  pub pred_here : pred_of new v ≡ a
  pub pred_kept : (w : ℕ) → (w ≢ v) → pred_of new w ≡ pred_of old w

-- node v has the place k
pub record PlacedAt (old new : List Label) (v k : ℕ) : Type 0 where
  pub distance : (w : ℕ) → distance_of new w ≡ distance_of old w
  pub pred : (w : ℕ) → pred_of new w ≡ pred_of old w
  pub here : place_of new v ≡ k
  pub kept : (w : ℕ) → (w ≢ v) → place_of new w ≡ place_of old w

-- node v, whose label was d, is put at the end of the frontier unless it was labelled
pub record Discovered (d : ℤ) (frontier frontier' : ℕ → ℕ) (waiting waiting' v : ℕ) : Type 0 where
  pub known : d <ℤ infinity → waiting' ≡ waiting
  pub more : infinity ≤ℤ d → waiting' ≡ waiting + 1
  pub last : infinity ≤ℤ d → frontier' waiting ≡ v
  pub kept : (k : ℕ) → k < waiting → frontier' k ≡ frontier k
