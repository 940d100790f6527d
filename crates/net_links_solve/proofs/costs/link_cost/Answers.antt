use Rattle.std.proofs.Common.{◌≡◌, ◌-ℤ◌, neg_ℤ, arith, rules}
use Rattle.std.proofs.lemmas.Int.{ints}
use borrow.Author.Differences.{up}
use Rattle.net_links.specs.Links.{beyond}
use Rattle.net_links_solve.specs.Link.{numbers_in}
use Rattle.net_links_solve.proofs.Costing.{product_fits, same_cost, less_cost}
use Rattle.net_links_solve.proofs.costs.link_cost.Goals as goal

pub overflow_mul-result : goal.overflow_mul-result
overflow_mul-result c =
    let price : c.from.result ≡ up c.args.edge.now.limit = omega (arith, ints, c.from.ensures, c.unsigned_abs.ensures.value, c.requires.price) in
    omega (arith, product_fits c.from.result c.beyond.result (omega (arith, price, c.requires.few)) c.beyond.ensures.small)

pub returns-clause-value : goal.returns-clause-value
returns-clause-value c =
    let e = c.args.edge.now in
    let price : c.from.result ≡ up e.limit = omega (arith, ints, c.from.ensures, c.unsigned_abs.ensures.value, c.requires.price) in
    let low : c.from-low.result ≡ neg_ℤ e.reverse_cost = omega (arith, ints, c.from-low.ensures, c.requires.low) in
    let high : c.from-high.result ≡ e.cost = omega (arith, ints, c.from-high.ensures, c.requires.high) in
    let rise : c.rise-rise.result ≡ (numbers_in c.args.numbers.now e.to -ℤ numbers_in c.args.numbers.now e.from) = search rules in
    let over : c.beyond.result ≡ beyond c.from-low.result c.from-high.result c.rise-rise.result = search rules in
    same_cost e.limit _ _ _ _ _ _ c.from.result c.beyond.result price over low high rise

pub returns-clause-small : goal.returns-clause-small
returns-clause-small c =
    let price : c.from.result ≡ up c.args.edge.now.limit = omega (arith, ints, c.from.ensures, c.unsigned_abs.ensures.value, c.requires.price) in
    less_cost (up c.args.edge.now.limit) c.from.result c.beyond.result price c.beyond.ensures.small
