use Rattle.std.proofs.Common.{◌≡◌, ◌+◌, ◌-◌, length, get_or, set, refl, arith, rules}
use Rattle.std.proofs.lemmas.List.{get_or-set_same, get_or-set_other}
use Rattle.net_graph.specs.Order.{node_at}
use Rattle.net_search.specs.Label.{distance_of, place_of}
use Rattle.net_search.proofs.Listed.{reached_listed}
use Rattle.net_search.proofs.lists.reach.Goals as goal

pub returns-clause-listed : goal.returns-clause-listed
returns-clause-listed c =
    let L = c.requires.listed in
    let order = c.args.order.now in let frontier = c.args.frontier.now in let reached = c.args.reached.now in let waiting = c.args.waiting.now in
    let u = get_or c.args.frontier.now c.args.k 0 in
    let room = c.requires.listed.count in
    let same : length (set c.args.order.now c.args.reached.now (get_or c.args.frontier.now c.args.k 0)) ≡ length c.args.order.now = search rules in
    rw same
    (reached_listed (length order) (distance_of c.args.labels.now) (distance_of c.put.new.labels) (place_of c.args.labels.now) (place_of c.put.new.labels) (node_at order) (node_at (set order reached u))
    (node_at frontier) (node_at (set frontier c.args.k (get_or frontier (waiting - 1) 0))) reached (reached + 1) waiting (waiting - 1) c.args.k L c.requires.waits
    refl (omega (arith, c.requires.waits)) c.put.ensures.here c.put.ensures.kept
    (get_or-set_same order reached u 0 (omega (arith, room, c.requires.waits)))
    (λ j l. get_or-set_other order reached j u 0 (λ e. omega (arith, e, l)))
    (λ l. get_or-set_same frontier c.args.k (get_or frontier (waiting - 1) 0) 0 (omega (arith, c.requires.frontier, room, c.requires.waits)))
    (λ j l x. get_or-set_other frontier c.args.k j (get_or frontier (waiting - 1) 0) 0 x)
    c.put.ensures.distance)
