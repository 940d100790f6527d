use Rattle.std.proofs.Common.{length}
use Rattle.net_search.proofs.Listed.{none_forgotten}
use Rattle.net_search.proofs.lists.unlabel_all.Goals as goal

pub loop-v-init : goal.loop-v-init
loop-v-init c = none_forgotten (length c.args.labels.now) c.args.nodes.now c.args.labels.now
