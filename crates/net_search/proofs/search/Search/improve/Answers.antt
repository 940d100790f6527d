use Rattle.std.proofs.Common.{length, arith, refl, w64, to_z, of_z}
use Rattle.std.proofs.lemmas.Int.{ints}
use Rattle.net_graph.specs.Order.{node_at}
use Rattle.net_search.specs.Label.{distance_of, place_of}
use Rattle.net_search.specs.Tree.{tree}
use Rattle.net_search.proofs.Listed.{unlabelled_left, met_listed}
use Rattle.net_search.proofs.search.Search.improve.Goals as goal

pub discover-requires-clause-lengths : goal.discover-requires-clause-lengths
discover-requires-clause-lengths c =
    let s = c.args.self.now in let t = tree s in
    λ f. omega (arith, s.as_long, unlabelled_left (length s.order.now) t.distance t.place t.order t.frontier t.reached t.waiting s.listed c.args.v c.requires.node f)

pub invariant_of-self-clause-listed : goal.invariant_of-self-clause-listed
invariant_of-self-clause-listed c =
    let s = c.args.self.now in let t = tree s in
    met_listed (length s.order.now) t.distance (distance_of c.discover.new.labels) t.place (place_of c.discover.new.labels) t.order t.order t.frontier (node_at c.discover.new.frontier) t.reached t.reached t.waiting c.discover.new.waiting
    c.args.v (to_z w64 (of_z w64 c.args.d)) s.listed c.discover.ensures.discovered c.requires.node c.requires.unreached (omega (arith, ints, c.requires.near))
    c.discover.ensures.labelled.distance_here c.discover.ensures.labelled.distance_kept c.discover.ensures.place (λ k. refl) refl
