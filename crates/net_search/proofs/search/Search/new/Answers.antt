use Rattle.std.proofs.Common.{length, rules}
use Rattle.net_graph.specs.Order.{node_at}
use Rattle.net_search.proofs.Listed.{blank_listed}
use Rattle.net_search.proofs.search.Search.new.Goals as goal

pub invariant_of-result-clause-listed : goal.invariant_of-result-clause-listed
invariant_of-result-clause-listed c =
    blank_listed (length c.args.order.now) (length c.blank.new.labels) c.blank.new.labels (node_at c.args.order.now) (node_at c.args.frontier.now) (search rules) c.blank.ensures
