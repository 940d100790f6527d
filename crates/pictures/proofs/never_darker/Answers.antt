use Rattle.pictures.proofs.Shading.{never_darker}
use Rattle.pictures.proofs.never_darker.Goals as goal

pub returns : goal.returns
returns c = never_darker
