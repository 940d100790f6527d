-- What a network says.
use Rattle.net_graph.specs.Graph.{Graph, graph_of}
use Rattle.net_graph.specs.declared.network.Network.{Network}

abbrev pub graph : Network → Graph
graph n = graph_of n.first.now n.arcs.now
