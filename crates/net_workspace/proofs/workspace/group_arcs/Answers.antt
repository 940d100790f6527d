use Rattle.std.proofs.Common.{rules, ◌≡◌, ◌+◌, ◌*◌, length}
use Rattle.net_workspace.proofs.Made.{formed, represents}
use Rattle.net_workspace.proofs.workspace.group_arcs.Goals as goal

pub returns-clause-formed : goal.returns-clause-formed
returns-clause-formed c =
    let long : length c.build.new.first ≡ length c.args.next.now + 1 = search rules in
    let count : length c.build.new.arcs.arcs.now ≡ length c.args.edges.now * 2 = search rules in
    formed c.args.edges.now (length c.args.next.now) c.build.new.first c.build.new.arcs _ c.build.new.arcs.arc_of.now c.requires.fit long count c.build.ensures.first c.build.ensures.placed (search rules) (search rules)

pub returns-clause-represents : goal.returns-clause-represents
returns-clause-represents c =
    let long : length c.build.new.first ≡ length c.args.next.now + 1 = search rules in
    let count : length c.build.new.arcs.arcs.now ≡ length c.args.edges.now * 2 = search rules in
    represents c.args.edges.now (length c.args.next.now) c.build.new.first c.build.new.arcs _ _ c.requires.fit long count c.build.ensures.first c.build.ensures.placed (search rules) (search rules)
