use Rattle.std.proofs.Common.{◌≡◌, ℕ, ◌<◌, ◌∙◌, length, arith, rules, ◌-ℤ◌}
use Rattle.net_graph.specs.Node.{potential_of}
use Rattle.net_search.specs.Tree.{tree}
use Rattle.net_solve.proofs.LoweredPotentials.{one_more, others_stay}
use Rattle.net_solve.proofs.augment.lower.Goals as goal

pub loop-v-preserved : goal.loop-v-preserved
loop-v-preserved c =
    let I = c.loop-v.invariant in let s = c.args.search.now in let k = c.loop-v.v-index in let n = length c.args.nodes.now in
    let in_reached : k < s.reached = omega (arith, c.loop-v-test.true, I.long) in
    let there : (v : ℕ) → v < length c.args.nodes.now → (tree s).place v < s.reached → (tree s).order ((tree s).place v) ≡ v = (λ v h. s.listed.there v (omega (arith, h, c.requires.lengths))) in
    record {
      long = I.long;
      items = I.items;
      lowered = one_more n s.reached (tree s).place (tree s).order s.listed.back there (potential_of c.args.nodes.now) (potential_of c.loop-v.nodes) (potential_of c.raise.new.nodes) (λ v. (tree s).distance v -ℤ s.bound) k _ in_reached (I.items k in_reached) _ (search rules) c.raise.ensures.potential I.lowered I.others;
      others = others_stay n s.reached (tree s).place (tree s).order s.listed.back there (potential_of c.args.nodes.now) (potential_of c.loop-v.nodes) (potential_of c.raise.new.nodes) (λ v. (tree s).distance v -ℤ s.bound) k _ in_reached (I.items k in_reached) _ (search rules) c.raise.ensures.potential I.lowered I.others;
      excess = λ v. c.raise.ensures.excess v ∙ I.excess v;
    }
