use Rattle.std.proofs.Common.{◌+◌, length, arith, rules}
use Rattle.std.proofs.lemmas.Int.{ints}
use Rattle.sums.proofs.Loop.{sum_none, sum_more}
use Rattle.sums.proofs.Sum.{sum_longer}
use Rattle.net_theory.proofs.Edge.{up_some}
use Rattle.net_build.specs.Lists.{edges_of}
use Rattle.net_links_solve.specs.Link.{links_of}
use Rattle.net_links_solve.proofs.list.prices_fit.Goals as goal

pub loop-edge-init : goal.loop-edge-init
loop-edge-init c = record { so_far = omega (arith, ints, sum_none (links_of c.args.edges.now).price); few = omega (arith, sum_none (links_of c.args.edges.now).price) }

pub returns-then-edge-sum : goal.returns-then-edge-sum
returns-then-edge-sum c =
    let l = links_of c.args.edges.now in
    let i = c.loop-edge.edge-index in
    (λ e. search rules, λ p. absurd (omega (arith, ints, p, c.if-edge-sum.true, c.loop-edge.invariant.so_far, c.loop-edge.invariant.few, up_some ((edges_of c.args.edges.now).limit i) (c.requires i c.loop-edge-test.true).allowed, sum_more i l.price, sum_longer (i + 1) (length c.args.edges.now) l.price (omega (arith, c.loop-edge-test.true)))))

pub loop-edge-preserved : goal.loop-edge-preserved
loop-edge-preserved c =
    let l = links_of c.args.edges.now in
    let i = c.loop-edge.edge-index in
    let price = up_some ((edges_of c.args.edges.now).limit i) (c.requires i c.loop-edge-test.true).allowed in
    record {
      so_far = omega (arith, ints, c.loop-edge.invariant.so_far, price, sum_more i l.price, c.if-edge-sum.false, c.loop-edge.invariant.few);
      few = omega (arith, ints, c.if-edge-sum.false, c.loop-edge.invariant.so_far, c.loop-edge.invariant.few, price, sum_more i l.price);
    }
