-- Where no node supplies anything, the solver leaves numbers that cost least.
use Rattle.std.proofs.Common.{◌≡◌, ℕ, List, length, ℤ, pos, ap, ◌∙◌, subst, arith}
use Rattle.std.specs.Prelude.{Result}
use borrow.Author.Differences.{up}
use Rattle.sums.proofs.Sum.{sum_zero, sum_ℤ_zero}
use Rattle.net_graph.specs.Node.{excess_of}
use Rattle.net_build.specs.Lists.{edges_of}
use Rattle.net_build.specs.declared.edge.Edge.{Edge}
use Rattle.net_solve.specs.Promise.{Balanced}
use Rattle.net_solve.specs.declared.infeasible.Infeasible.{Infeasible}
use Rattle.net_workspace.specs.Workspace.{EdgesOptimal, arc, state}
use Rattle.net_workspace.specs.declared.workspace.Workspace.{Workspace}
use Rattle.net_links.specs.Links.{CostLeast, Certified}
use Rattle.net_links_solve.specs.Link.{links_of, AreLinks}
use Rattle.net_links_solve.specs.Settled.{numbers, flows, LeavesLeast}
use Rattle.net_links_solve.proofs.Network.{represents_links}
use Rattle.net_links_solve.proofs.Solved.{solved_is_least}

pub none_balanced : (n : ℕ) (e : ℕ → ℤ) → ((v : ℕ) → e v ≡ pos 0) → Balanced n e
none_balanced n e none = record { even = sum_ℤ_zero n e (λ v h. none v); few = omega (arith, sum_zero n (λ v. up (e v)) (λ v h. ap up (none v))) }

module _ (es : List Edge) (links : AreLinks es) (w w' : Workspace) (r : Result (Unit {0}) Infeasible) (s : EdgesOptimal (edges_of es) w w' r) (none : (v : ℕ) → excess_of w.nodes.now v ≡ pos 0) where
  leaves : LeavesLeast (links_of es) s.graph.nodes (arc w') (state w') r
  leaves = solved_is_least (links_of es) s.graph (arc w') _ (state w') _ r (represents_links es links s.graph (arc w') s.represents) s.network (λ v h. none v) s.optimum

  pub numbers_least : CostLeast (links_of es) (numbers w')
  numbers_least = leaves.least

  pub numbers_certified : (n : ℕ) → length w.nodes.now ≡ n → Certified (links_of es) n (numbers w') (flows w')
  numbers_certified n e = subst (λ (k : ℕ). Certified (links_of es) k (numbers w') (flows w')) (s.nodes ∙ e) leaves.certified
