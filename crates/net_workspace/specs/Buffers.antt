-- What the vectors of a workspace serve.
use Rattle.std.specs.Prelude.{◌≡◌, ℕ, ◌+◌, ◌*◌, length}
use Rattle.net_workspace.specs.declared.buffers.Buffers.{Buffers}

abbrev pub node_count : Buffers → ℕ
node_count b = length b.nodes.items

abbrev pub edge_count : Buffers → ℕ
edge_count b = length b.arc_of.items

-- all vectors are as long as so many nodes and edges ask
pub record IsSized (b : Buffers) : Type 0 where
  pub first : length b.first.items ≡ node_count b + 1
  pub next : length b.next.items ≡ node_count b
  pub arcs : length b.arcs.items ≡ edge_count b * 2
  pub flow : length b.flow.items ≡ edge_count b * 2
  pub labels : length b.labels.items ≡ node_count b
  pub order : length b.order.items ≡ node_count b
  pub frontier : length b.frontier.items ≡ node_count b
  pub tight : length b.tight.items ≡ edge_count b * 2
  pub heights : length b.heights.items ≡ node_count b
  pub slots : length b.slots.items ≡ node_count b
