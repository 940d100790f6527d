-- Nodes in an order.
use Rattle.std.specs.Prelude.{ℕ, List, slice_index}

-- the node that stands at place k
abbrev pub node_at : List ℕ → ℕ → ℕ
node_at order k = slice_index order k
