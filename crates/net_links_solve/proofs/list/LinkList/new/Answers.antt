use Rattle.std.proofs.Common.{IsTrue, arith}
use Rattle.net_links_solve.proofs.Fitting.{each_fit}
use Rattle.net_links_solve.proofs.list.LinkList.new.Goals.{else-nodes-via-then-nodes+then-edges+then-all_fit+else-prices_fit, else-nodes-via-then-nodes+then-edges+else-all_fit, else-nodes-via-then-nodes+else-edges, else-nodes-via-else-nodes}
use Rattle.net_links_solve.proofs.list.LinkList.new.Goals as goal

pub returns-else-nodes-clause-unfit : goal.returns-else-nodes-clause-unfit
returns-else-nodes-clause-unfit c = λ f. elim c.else-nodes.branch [
  | else-nodes-via-then-nodes+then-edges+then-all_fit+else-prices_fit w ↦ let t : IsTrue w.prices_fit.result = w.prices_fit.ensures.1 f.fit.priced in grind (arith, t, w.if-prices_fit.false)
  | else-nodes-via-then-nodes+then-edges+else-all_fit w ↦ let t : IsTrue w.all_fit.result = w.all_fit.ensures.1 (each_fit c.args.nodes c.args.edges.now f) in grind (arith, t, w.if-all_fit.false)
  | else-nodes-via-then-nodes+else-edges w ↦ omega (arith, f.fit.few, w.if-edges.false)
  | else-nodes-via-else-nodes w ↦ omega (arith, f.fit.few_nodes, w.if-nodes.false)
]
