use Rattle.std.proofs.Common.{length, rules}
use Rattle.net_search.proofs.Listed.{blank_listed}
use Rattle.net_search.proofs.search.Search.forget.Goals as goal

pub invariant_of-self-clause-listed : goal.invariant_of-self-clause-listed
invariant_of-self-clause-listed c =
    rw (c.forget.ensures.reached, c.forget.ensures.waiting) (blank_listed _ (length c.args.self.now.order.now) c.forget.new.labels _ _ (search rules) c.forget.ensures.blank)
