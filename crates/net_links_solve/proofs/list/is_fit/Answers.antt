use Rattle.std.proofs.Common.{◌≤◌, ◌^◌, nat_abs, rules, arith}
use Rattle.std.proofs.lemmas.Int.{ints}
use Rattle.net_links_solve.proofs.list.is_fit.Goals as goal

pub returns-then-edge-nodes-2 : goal.returns-then-edge-nodes-2
returns-then-edge-nodes-2 c =
    let low : nat_abs c.args.edge.now.reverse_cost ≤ 2 ^ 30 = search rules in
    let high : nat_abs c.args.edge.now.cost ≤ 2 ^ 30 = search rules in (
      λ e. record { takes = record { allowed = search rules; alike = search rules }; from = search rules; to = search rules; ordered = omega (arith, ints, e, low, high); low_small = low; high_small = high },
      λ p. grind (arith, ints, p.ordered, low, high),
    )
