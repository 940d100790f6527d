use Rattle.std.proofs.Common.{◌∙◌, w64}
use Rattle.std.proofs.lemmas.Int.{to_z-of_z}
use Rattle.pictures.proofs.Shading.{greatest_is}
use Rattle.pictures.proofs.greatest_of.Goals as goal

pub returns : goal.returns
returns c =
    to_z-of_z w64 c.unwrap_or.result (record { sfits = c.unwrap_or.type_inv }) ∙ c.unwrap_or.ensures
    ∙ greatest_is c.args.values.now c.highest.result c.highest.ensures.none c.highest.ensures.one c.highest.ensures.greatest
