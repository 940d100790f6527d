use Rattle.std.proofs.Common.{◌≡◌, Err, sym, rules}
use Rattle.test_solver.specs.declared.checked.Refusal.TheVariants as refusal
use Rattle.test_solver.proofs.LentSlices.{done}
use Rattle.test_solver.proofs.checked.try_solve.Goals as goal

pub returns-in_err-solve_in-clause-tried : goal.returns-in_err-solve_in-clause-tried
returns-in_err-solve_in-clause-tried c =
    let e : c.from_residual-in_err-solve_in.result ≡ Err (refusal.Infeasible c.in_err-solve_in.field-0.0) = search rules in
    rw e (done c.args.lists c.args.slices.now _ c.in_ok-net.net c.solve_in.new.flow c.solve_in.new.labels _ (sym c.in_ok-net.ensures.first) (sym c.in_ok-net.ensures.arcs) (search rules) (search rules) (search rules) c.in_err-solve_in.ensures.solution c.in_err-solve_in.ensures.optimal)

pub returns-clause-tried : goal.returns-clause-tried
returns-clause-tried c =
    done c.args.lists c.args.slices.now _ c.in_ok-net.net c.solve_in.new.flow c.solve_in.new.labels _ (sym c.in_ok-net.ensures.first) (sym c.in_ok-net.ensures.arcs) (search rules) (search rules) (search rules) c.in_ok-solve_in.ensures.solution c.in_ok-solve_in.ensures.optimal
