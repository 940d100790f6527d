-- A step along the path found, towards the source.
use Rattle.std.specs.Prelude.{◌≡◌, ℕ, Option, IfNone, IfSome}
use Rattle.net_graph.specs.Network.{graph}
use Rattle.net_search.specs.Tree.{tree}
use Rattle.net_solve.specs.Predecessors.{PredecessorStep}
use Rattle.net_solve.specs.declared.path.Path.{Path}

-- by one arc, or at the source by none
pub record Stepped (w : Path) (given : Option ℕ) (w' : Path) : Type 0 where
  pub ended : IfNone given (w.at ≡ w.search.now.source)
  pub back : IfSome given (λ a. PredecessorStep (graph w.net) (tree w.search.now) w.at a w'.at)
  pub net : w'.net ≡ w.net
  pub search : w'.search.now ≡ w.search.now
