use Rattle.std.proofs.Common.{◌≡◌, pos, ◌≤ℤ◌, SFits, arith, rules, w64, to_z, of_z}
use Rattle.std.proofs.lemmas.Int.{ints, to_z-of_z}
use Rattle.net_graph.specs.Network.{graph}
use Rattle.net_graph.specs.Sound.{state}
use Rattle.net_search.specs.Label.{infinity}
use Rattle.net_search.specs.Tree.{tree}
use Rattle.net_search.proofs.Reach.{advanced, begins, nearer_found}
use Rattle.net_search.proofs.Shortest.{is_shortest, no_shorter_path}
use Rattle.net_search.proofs.Steps.{path_tree}
use Rattle.net_search.proofs.search.Search.find.Goals as goal

pub loop-u-init : goal.loop-u-init
loop-u-init c =
    let net = c.args.flow.now.net in let B = c.begin.ensures in let q = c.begin.new.self in
    let ahead : pos 0 ≤ℤ q.radius = omega (arith, ints, B.radius, c.requires.ahead) in
    let most : q.radius ≤ℤ infinity = omega (arith, ints, B.radius, c.requires.radius_most) in
    record {
      slices = search rules;
      searching = begins (graph net) (state c.args.flow.now) (tree q) (rw B.source c.requires.source) (rw B.source c.requires.excess) ahead most (rw c.requires.lengths at B.begun);
      source = search rules;
      radius = search rules;
    }

pub scan-requires-clause-searching : goal.scan-requires-clause-searching
scan-requires-clause-searching c =
    let net = c.args.flow.now.net in
    advanced (graph net) net.formed.laws (state c.args.flow.now) c.requires.sound (tree c.loop-u.self) (tree c.advance.new.self) c.in-Some.u c.loop-u.invariant.searching (search rules)

pub returns-clause-paths : goal.returns-clause-paths
returns-clause-paths c =
    let net = c.args.flow.now.net in
    rw c.in_default.ensures.same (path_tree (graph net) (state c.args.flow.now) (graph net).nodes 0 (tree c.loop-u.self) c.loop-u.invariant.searching)

pub returns-clause-shortest : goal.returns-clause-shortest
returns-clause-shortest c =
    let net = c.args.flow.now.net in let I = c.loop-u.invariant in
    rw c.in_default.ensures.same (is_shortest (graph net) net.formed.laws (state c.args.flow.now) (tree c.loop-u.self) I.searching (λ v h p. c.in_default.ensures.ended v (omega (arith, h, I.slices.len, c.requires.lengths)) p))

pub returns-clause-least : goal.returns-clause-least
returns-clause-least c =
    let net = c.args.flow.now.net in
    no_shorter_path (graph net) net.formed.laws (state c.args.flow.now) c.requires.sound (tree c.advance.new.self) (returns-clause-paths c) (returns-clause-shortest c)

pub returns-clause-found : goal.returns-clause-found
returns-clause-found c =
    let t = c.advance.new.self in
    let fits : SFits w64 t.bound = search rules in
    let whole : to_z w64 (of_z w64 c.args.radius) ≡ c.args.radius = search rules in
    rw c.then_some.ensures (nearer_found t.bound _ _ _ t.target (to_z-of_z w64 t.bound fits) whole)
