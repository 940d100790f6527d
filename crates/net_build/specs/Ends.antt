-- Where edges begin and end.
use Rattle.std.specs.Prelude.{ℕ, List, pos, slice_index_or}
use Rattle.net_build.specs.declared.edge.Edge.{Edge}

-- what is read past the end of a list of edges
abbrev pub no_edge : Edge
no_edge = record { from = 0; to = 0; cost = pos 0; reverse_cost = pos 0; limit = pos 0; reverse_limit = pos 0 }

abbrev pub from_of : List Edge → ℕ → ℕ
from_of es e = (slice_index_or es e no_edge).from

abbrev pub to_of : List Edge → ℕ → ℕ
to_of es e = (slice_index_or es e no_edge).to
