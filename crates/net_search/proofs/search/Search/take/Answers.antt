use Rattle.std.proofs.Common.{rules}
use Rattle.net_search.proofs.search.Search.take.Goals as goal

pub returns-then-nodes-v-lt0-clause-taken : goal.returns-then-nodes-v-lt0-clause-taken
returns-then-nodes-v-lt0-clause-taken c = record { improved = search rules; aim = λ x. search rules; kept = λ x. search rules }
