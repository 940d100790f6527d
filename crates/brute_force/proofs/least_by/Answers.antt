use Rattle.std.proofs.Common.{◌≡◌, ℕ, ◌*◌, ◌^◌, ap, ◌∙◌, subst, arith}
use Rattle.phase_field.specs.Model.{field_of}
use Rattle.phase_cost.specs.Cost.{cost}
use Rattle.brute_force.specs.Tried.{LeastOf, turns_of}
use Rattle.brute_force.proofs.Codes.{few_codes, some_code, all_coded}
use Rattle.brute_force.proofs.least_by.Goals as goal

pub pow-requires : goal.pow-requires
pow-requires c = omega (arith, few_codes c.places-places.result (omega arith))

pub least_of-requires : goal.least_of-requires
least_of-requires c = record { few = omega arith; expected = c.requires; some = omega (arith, some_code c.places-places.result) }

pub returns-clause-least : goal.returns-clause-least
returns-clause-least c =
    let f = c.args.field.now in
    let all : c.pow.result ≡ 5 ^ (f.wide * f.high) = c.pow.ensures ∙ ap (λ (n : ℕ). 5 ^ n) c.places-places.ensures in
    all_coded (field_of f) c.least_of.result f.wide_some (subst (λ (n : ℕ). LeastOf (λ k. cost (field_of f) (turns_of f.wide k)) n c.least_of.result) all c.least_of.ensures)
