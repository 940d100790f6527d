use Rattle.phase_field.specs.Model.{field_of}
use Rattle.phase_cost.specs.Cost.{cost}
use Rattle.brute_force.specs.Tried.{LeastOf, turns_of}
use Rattle.brute_force.proofs.least_of.Given as goal

abbrev pub invariant-loop-code : goal.invariant-loop-code
invariant-loop-code l = LeastOf (λ k. cost (field_of l.field) (turns_of l.field.wide k)) l.code l.least
