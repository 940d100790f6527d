use Rattle.net_links_levels.proofs.Levels.{some_level_set_is_better}
use Rattle.net_links_levels.proofs.some_level_set_is_better.Goals as goal

pub returns : goal.returns
returns c = some_level_set_is_better
