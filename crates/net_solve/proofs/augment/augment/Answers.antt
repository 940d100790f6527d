use Rattle.std.proofs.Common.{sym, arith, rules}
use Rattle.std.proofs.Math.Path.{fun_ext}
use Rattle.std.proofs.lemmas.Int.{ints}
use Rattle.net_graph.specs.Network.{graph}
use Rattle.net_graph.specs.Node.{excess_of, potential_of}
use Rattle.net_graph.specs.Sound.{state}
use Rattle.net_search.specs.Tree.{tree}
use Rattle.net_search.proofs.Steps.{label_fits}
use Rattle.net_search.proofs.Potentials.{nothing_leaves}
use Rattle.net_search.proofs.PathPush.{excess_small}
use Rattle.net_solve.proofs.Augmentation.{Augmented, Ready, augmented, bound_fits, none_found, some_found, ready}
use Rattle.net_solve.proofs.Progress.{progress_none}
use Rattle.net_solve.proofs.augment.augment.Goals as goal

-- ---- no deficit found

pub returns-then-is_none-clause-progress : goal.returns-then-is_none-clause-progress
returns-then-is_none-clause-progress c = progress_none _ _ _ c.requires.sound c.find.ensures.slices

pub returns-then-is_none-clause-cut : goal.returns-then-is_none-clause-cut
returns-then-is_none-clause-cut c =
    let net = c.args.flow.now.net in let F = c.find.ensures in
    let none = none_found c.find.new.self.bound _ _ c.find.result F.found (search rules) in
    λ _ e. nothing_leaves (graph net) net.formed.laws (state c.args.flow.now) c.requires.sound (tree c.find.new.self) F.paths F.shortest (omega (arith, ints, none, e)) (rw F.source c.requires.excess)

-- ---- one found

pub lower-requires-clause-near : goal.lower-requires-clause-near
lower-requires-clause-near c =
    let net = c.args.flow.now.net in let F = c.find.ensures in
    λ v h p. label_fits (graph net) net.formed.laws (state c.args.flow.now) c.requires.sound (tree c.find.new.self) F.paths v (omega (arith, h, c.args.flow.now.nodes_len)) (F.paths.labelled v (omega (arith, h, c.args.flow.now.nodes_len)) p)

pub lower-requires-clause-bound : goal.lower-requires-clause-bound
lower-requires-clause-bound c =
    let net = c.args.flow.now.net in let F = c.find.ensures in
    bound_fits (graph net) net.formed.laws (state c.args.flow.now) c.requires.sound (tree c.find.new.self) F.paths F.shortest _ F.radius (omega (arith, ints, c.requires.radius_most)) (some_found _ c.find.result F.found (search rules))

is_ready : (c : goal.After-flow-1) → Ready (graph c.args.flow.now.net) (record { flow = (state c.args.flow.now).flow; excess = excess_of c.lower.new.nodes; potential = potential_of c.lower.new.nodes }) (tree c.find.new.self)
is_ready c =
    let F = c.find.ensures in
    ready c.args.flow.now c.find.new.self c.lower.new.nodes c.requires.sound F.paths F.shortest _ F.radius (omega (arith, ints, c.requires.radius_most)) (some_found _ c.find.result F.found (search rules)) c.lower.ensures.lowered c.lower.ensures.excess

pub bottleneck-amount-requires-clause-sound : goal.bottleneck-amount-requires-clause-sound
bottleneck-amount-requires-clause-sound c = (is_ready c).sound

pub bottleneck-amount-requires-clause-found : goal.bottleneck-amount-requires-clause-found
bottleneck-amount-requires-clause-found c = (is_ready c).found

may_push : (c : goal.After-push_along-arg-1) → Ready (graph c.args.flow.now.net) (record { flow = (state c.args.flow.now).flow; excess = excess_of c.lower.new.nodes; potential = potential_of c.lower.new.nodes }) (tree c.find.new.self)
may_push c =
    let F = c.find.ensures in
    ready c.args.flow.now c.find.new.self c.lower.new.nodes c.requires.sound F.paths F.shortest _ F.radius (omega (arith, ints, c.requires.radius_most)) (some_found _ c.find.result F.found (search rules)) c.lower.ensures.lowered c.lower.ensures.excess

pub push_along-requires-clause-sound : goal.push_along-requires-clause-sound
push_along-requires-clause-sound c = (may_push c).sound

pub push_along-requires-clause-found : goal.push_along-requires-clause-found
push_along-requires-clause-found c = (may_push c).found

pub push_along-requires-clause-few : goal.push_along-requires-clause-few
push_along-requires-clause-few c =
    let net = c.args.flow.now.net in let q = c.find.new.self in
    omega (arith, ints, c.bottleneck-amount.ensures.some, c.bottleneck-amount.ensures.source, c.lower.ensures.excess q.source, c.requires.sound.few, excess_small (graph net) (state c.args.flow.now) c.requires.sound q.source c.find.ensures.paths.source)

all : (c : goal.After-push_along) → Augmented (graph c.args.flow.now.net) (state c.args.flow.now) (state c.push_along.new.flow)
all c =
    let net = c.args.flow.now.net in let F = c.find.ensures in let E = c.bottleneck-amount.ensures in
    let R = ready c.args.flow.now c.find.new.self c.lower.new.nodes c.requires.sound F.paths F.shortest _ F.radius (omega (arith, ints, c.requires.radius_most)) (some_found _ c.find.result F.found (search rules)) c.lower.ensures.lowered c.lower.ensures.excess in
    augmented (graph net) net.formed.laws (state c.args.flow.now) (excess_of c.lower.new.nodes) (potential_of c.lower.new.nodes) (sym (fun_ext c.lower.ensures.excess)) R.sound (tree c.find.new.self) R.found _
    (omega (arith, ints, E.some)) (omega (arith, ints, E.source)) (omega (arith, ints, E.target)) (state c.push_along.new.flow) c.push_along.ensures.potential c.push_along.ensures.walked

pub returns-clause-progress : goal.returns-clause-progress
returns-clause-progress c =
    let A = all c in
    record {
      same = search rules;
      slices = c.find.ensures.slices;
      sound = A.sound;
      later = A.later;
      quiet = A.quiet;
    }

pub returns-clause-less : goal.returns-clause-less
returns-clause-less c = λ _. (all c).less
