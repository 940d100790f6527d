-- Lists of nodes.
use Rattle.std.specs.Prelude.{◌≡◌, ℕ, List, ℤ, pos, ◌+ℤ◌, slice_index_or}
use Rattle.net_graph.specs.Graph.{at}
use Rattle.net_graph.specs.declared.node.Node.{Node}

-- what is read past the end of a list of nodes
abbrev pub no_node : Node
no_node = record { excess = pos 0; potential = pos 0 }

abbrev pub excess_of : List Node → ℕ → ℤ
excess_of nodes v = (slice_index_or nodes v no_node).excess

abbrev pub potential_of : List Node → ℕ → ℤ
potential_of nodes v = (slice_index_or nodes v no_node).potential

-- node v has d more in excess
pub record Given (old new : List Node) (v : ℕ) (d : ℤ) : Type 0 where
  pub excess : (w : ℕ) → excess_of new w ≡ (excess_of old w +ℤ at v d w)
  pub potential : (w : ℕ) → potential_of new w ≡ potential_of old w
