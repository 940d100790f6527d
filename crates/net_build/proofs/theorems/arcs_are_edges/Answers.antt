use Rattle.net_build.proofs.Edges.{arcs_are_edges}
use Rattle.net_build.proofs.theorems.arcs_are_edges.Goals as goal

pub returns : goal.returns
returns c = arcs_are_edges
