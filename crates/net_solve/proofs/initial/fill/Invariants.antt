use Rattle.std.proofs.Common.{◌≡◌, ℕ, ◌<◌, ◌-ℤ◌}
use Rattle.net_graph.specs.Network.{graph}
use Rattle.net_graph.specs.Sound.{state}
use Rattle.net_solve.specs.Promise.{SameFlow}
use Rattle.net_solve.specs.Promise.{initial_flow}
use Rattle.net_solve.specs.Inner.{initial_outflow}
use Rattle.net_solve.proofs.initial.fill.Given as goal

abbrev pub invariant-loop-a : goal.invariant-loop-a
invariant-loop-a l = record {
  same : SameFlow l.initial.flow l.flow;
  flow : (b : ℕ) → b < l.a → (state l.flow).flow b ≡ initial_flow (graph l.net) b;
  excess : (v : ℕ) → v < (graph l.net).nodes → (state l.flow).excess v ≡ ((state l.initial.flow).excess v -ℤ initial_outflow (graph l.net) v l.a);
}
