use Rattle.std.proofs.Common.{◌≡◌, length, sym, subst, rules}
use Rattle.net_build.specs.Grouped.{FitEdges}
use Rattle.net_build.specs.Lists.{edges_of}
use Rattle.net_links_solve.proofs.Network.{fit_edges}
use Rattle.net_links_solve.proofs.Settling.{none_balanced, numbers_least, numbers_certified}
use Rattle.net_links_solve.proofs.least.settle.Goals as goal

pub solve_by_waves-requires-clause-fit : goal.solve_by_waves-requires-clause-fit
solve_by_waves-requires-clause-fit c =
    let l = c.args.links in
    let n : length c.clear.new.nodes ≡ l.nodes = search rules in
    subst (FitEdges (edges_of l.edges.now)) (sym n) (fit_edges l.edges.now l.links l.nodes l.fit)

pub solve_by_waves-requires-clause-balanced : goal.solve_by_waves-requires-clause-balanced
solve_by_waves-requires-clause-balanced c = none_balanced _ _ c.clear.ensures

pub returns-clause-least : goal.returns-clause-least
returns-clause-least c = numbers_least c.args.links.edges.now c.args.links.links _ c.solve_by_waves.new.self c.solve_by_waves.result c.solve_by_waves.ensures.solved c.clear.ensures

pub returns-clause-certified : goal.returns-clause-certified
returns-clause-certified c =
    let n : length c.clear.new.nodes ≡ c.args.links.nodes = search rules in
    numbers_certified c.args.links.edges.now c.args.links.links _ c.solve_by_waves.new.self c.solve_by_waves.result c.solve_by_waves.ensures.solved c.clear.ensures c.args.links.nodes n
