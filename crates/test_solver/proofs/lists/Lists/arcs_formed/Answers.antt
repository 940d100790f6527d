use Rattle.std.proofs.Common.{rules}
use Rattle.net_graph.specs.Graph.{IsArc}
use Rattle.test_solver.specs.Lists.{graph}
use Rattle.test_solver.proofs.All.{all_below}
use Rattle.test_solver.proofs.lists.Lists.arcs_formed.Goals as goal

pub returns : goal.returns
returns c = all_below _ _ _ (IsArc (graph c.args.self.now)) c.all.result c.all.ensures.runs (λ a r f h. search rules) (λ x h. search rules) (λ x h p. search rules)
