use Rattle.net_theory.proofs.Crossing.{full_infeasible}
use Rattle.net_theory.proofs.cut_is_infeasible.Goals as goal

pub returns : goal.returns
returns c = λ g w e x f inside full y k m. full_infeasible g w e x f inside full y k m
