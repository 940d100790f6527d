-- What the slices of a workspace say.
use Rattle.std.specs.Prelude.{ℕ, List, ℤ, pos, slice_index, slice_index_or}
use Rattle.net_graph.specs.Node.{excess_of, potential_of}
use Rattle.net_graph.specs.Sound.{State}
use Rattle.net_graph.specs.declared.node.Node.{Node}

-- the arc of each edge
abbrev pub arc_in : List ℕ → ℕ → ℕ
arc_in arc_of e = slice_index arc_of e

abbrev pub state_of : List ℤ → List Node → State
state_of flow nodes =
    record {
      flow = λ a. slice_index_or flow a (pos 0);
      excess = excess_of nodes;
      potential = potential_of nodes;
    }
