use Rattle.std.proofs.Common.{◌≡◌, ℕ, ◌<◌, pos, ◌≤ℤ◌, ap, sym, refl, ◌∙◌, inl, inr, arith, rules}
use Rattle.net_graph.specs.Graph.{Graph}
use Rattle.net_graph.specs.Network.{graph}
use Rattle.net_graph.specs.Sound.{state}
use Rattle.net_search.specs.Tree.{tree}
use Rattle.net_search.specs.Path.{Cut}
use Rattle.net_solve.proofs.Augmentation.{next_like, placed_cut}
use Rattle.net_solve.proofs.Progress.{progress_more}
use Rattle.net_solve.proofs.solver.solve_some.Goals as goal

pub loop-source-preserved : goal.loop-source-preserved
loop-source-preserved c =
    let net = c.args.flow.now.net in let I = c.loop-source.invariant in let E = c.send_excess.ensures in
    let k = c.loop-source.source in
    let as_before : graph c.loop-source.flow.net ≡ graph net = ap graph I.progress.same.net in
    let quiet : (v : ℕ) → v < (graph net).nodes → (state c.loop-source.flow).excess v ≤ℤ pos 0 → (state c.send_excess.new.flow).excess v ≤ℤ pos 0 =
    (λ v h. E.progress.quiet v (omega (arith, h, ap (λ (g : Graph). g.nodes) as_before))) in
    record {
      progress = progress_more _ _ _ _ _ _ I.progress E.progress;
      number = omega (arith, I.number);
      sent = λ v h l e. elim (next_like v k l (e ∙ sym I.number)) [
        | inl p ↦ quiet v h (I.sent v h p e)
        | inr p ↦ rw p (E.sent (search rules))
      ];
    }

pub returns-else-not-send_excess-clause-progress : goal.returns-else-not-send_excess-clause-progress
returns-else-not-send_excess-clause-progress c = progress_more _ _ _ _ _ _ c.loop-source.invariant.progress c.send_excess.ensures.progress

pub returns-then-not-send_excess-clause-progress : goal.returns-then-not-send_excess-clause-progress
returns-then-not-send_excess-clause-progress c = progress_more _ _ _ _ _ _ c.loop-source.invariant.progress c.send_excess.ensures.progress

pub returns-then-not-send_excess-clause-infeasible : goal.returns-then-not-send_excess-clause-infeasible
returns-then-not-send_excess-clause-infeasible c =
    let net = c.args.flow.now.net in let I = c.loop-source.invariant in
    let as_before : graph c.loop-source.flow.net ≡ graph net = ap graph I.progress.same.net in
    let cut : Cut (graph net) (state c.send_excess.new.flow) (tree c.send_excess.new.search) = rw as_before at (c.send_excess.ensures.cut (search rules) refl) in
    placed_cut (graph net) (state c.send_excess.new.flow) (tree c.send_excess.new.search) cut
