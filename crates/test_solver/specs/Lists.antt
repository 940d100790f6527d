-- What lists say.
use Rattle.net_graph.specs.Graph.{Graph, graph_of}
use Rattle.test_solver.specs.declared.lists.Lists.{Lists}

abbrev pub graph : Lists → Graph
graph l = graph_of l.first.now l.arcs.now
