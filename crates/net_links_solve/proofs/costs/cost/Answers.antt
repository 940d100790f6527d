use Rattle.std.proofs.Common.{◌+◌, arith}
use Rattle.sums.proofs.Loop.{sum_none, sum_more}
use Rattle.net_links_solve.specs.Link.{links_of, numbers_in}
use Rattle.net_links_solve.proofs.Costing.{link_costs, all_links_cost, price_fits, sum_fits}
use Rattle.net_links_solve.proofs.costs.cost.Goals as goal

pub loop-edge-init : goal.loop-edge-init
loop-edge-init c =
    let l = links_of c.args.links.edges.now in
    record { so_far = omega (arith, sum_none (link_costs l (numbers_in c.args.numbers.now))); few = omega arith }

pub link_cost-sum-requires-clause-few : goal.link_cost-sum-requires-clause-few
link_cost-sum-requires-clause-few c = price_fits c.args.links.edges.now c.args.links.nodes c.args.links.fit c.loop-edge.edge-index c.loop-edge-test.true

pub overflow_add-sum : goal.overflow_add-sum
overflow_add-sum c =
    let l = links_of c.args.links.edges.now in
    let i = c.loop-edge.edge-index in
    omega (arith, c.loop-edge.invariant.few, c.link_cost-sum.ensures.small, sum_more i l.price, sum_fits c.args.links.edges.now c.args.links.nodes c.args.links.fit (i + 1) (omega (arith, c.loop-edge-test.true)))

pub loop-edge-preserved : goal.loop-edge-preserved
loop-edge-preserved c =
    let l = links_of c.args.links.edges.now in
    let i = c.loop-edge.edge-index in
    record {
      so_far = omega (arith, c.loop-edge.invariant.so_far, c.link_cost-sum.ensures.value, sum_more i (link_costs l (numbers_in c.args.numbers.now)));
      few = omega (arith, c.loop-edge.invariant.few, c.link_cost-sum.ensures.small, sum_more i l.price);
    }

pub returns : goal.returns
returns c = all_links_cost (links_of c.args.links.edges.now) (numbers_in c.args.numbers.now) _ c.loop-edge.edge-index (omega (arith, c.loop-edge-test.false)) c.loop-edge.invariant.so_far
