use Rattle.std.proofs.Common.{◌∙◌, w64}
use Rattle.std.proofs.lemmas.Int.{to_z-of_z}
use Rattle.pictures.proofs.Shading.{least_is}
use Rattle.pictures.proofs.least_of.Goals as goal

pub returns : goal.returns
returns c =
    to_z-of_z w64 c.unwrap_or.result (record { sfits = c.unwrap_or.type_inv }) ∙ c.unwrap_or.ensures
    ∙ least_is c.args.values.now c.lowest.result c.lowest.ensures.none c.lowest.ensures.one c.lowest.ensures.least
