use Rattle.std.proofs.Common.{length}
use Rattle.net_search.specs.Label.{Forgotten}
use Rattle.net_search.proofs.lists.unlabel_all.Given as goal

abbrev pub invariant-loop-v : goal.invariant-loop-v
invariant-loop-v l = Forgotten (length l.initial.labels) l.nodes l.v-index l.initial.labels l.labels
