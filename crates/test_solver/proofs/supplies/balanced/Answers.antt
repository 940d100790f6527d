use Rattle.std.proofs.Common.{◌≡◌, ℕ, ◌+◌, length, ℤ, pos, ◌-ℤ◌, neg_ℤ, sym, ap, ◌∙◌, arith, rules, w64, to_z, of_z}
use Rattle.std.proofs.Math.Facts.{of_z-to_z}
use Rattle.std.proofs.lemmas.Int.{ints}
use borrow.Author.Differences.{up}
use Rattle.sums.specs.Sum.{sum_to}
use Rattle.sums.proofs.Loop.{sum_none, sum_more}
use Rattle.net_graph.specs.Node.{excess_of}
use Rattle.test_solver.proofs.BalancedSupplies.{balanced_parts, balanced_ends, is_balanced, demand_is}
use Rattle.net_solve.proofs.InitialFlow.{supply_small}
use Rattle.test_solver.proofs.supplies.balanced.Goals as goal
use Rattle.test_solver.proofs.supplies.balanced.Goals.{then-gives-most-via-then-gives-most, then-gives-most-via-else-gives-most+then-taken-most}

pub loop-node-init : goal.loop-node-init
loop-node-init c =
    let e = excess_of c.args.nodes.now in
    record {
      gives = omega (arith, ints, sum_none (λ v. up (e v)));
      taken = omega (arith, ints, sum_none (λ v. up (neg_ℤ (e v))));
      gives_few = omega (arith, ints);
      taken_few = omega (arith, ints);
    }

pub returns-then-unsigned_abs : goal.returns-then-unsigned_abs
returns-then-unsigned_abs c =
    let n = length c.args.nodes.now in let e = excess_of c.args.nodes.now in
    (λ t. search rules, λ b. absurd (omega (arith, ints, supply_small n e b c.loop-node.node-index c.loop-node-test.true, c.if-unsigned_abs.true, c.unsigned_abs.ensures.value)))

pub loop-node-preserved : goal.loop-node-preserved
loop-node-preserved c =
    let e = excess_of c.args.nodes.now in let I = c.loop-node.invariant in let k = c.loop-node.node-index in let G = c.given-gives.ensures in let L = c.given-taken.ensures in
    let takes = demand_is (e k) (to_z w64 (of_z w64 (pos 0 -ℤ to_z w64 (of_z w64 (e k))))) _ L.value (omega (arith, ints, c.if-unsigned_abs.false, c.unsigned_abs.ensures.value)) in
    record {
      gives = omega (arith, ints, I.gives, I.gives_few, G.value, G.low, G.high, sum_more k (λ v. up (e v)));
      taken = omega (arith, ints, I.taken, I.taken_few, takes, L.low, L.high, sum_more k (λ v. up (neg_ℤ (e v))));
      gives_few = omega (arith, ints, c.if-gives-most.false);
      taken_few = omega (arith, ints, c.if-taken-most.false);
    }

pub returns-then-gives-most : goal.returns-then-gives-most
returns-then-gives-most c =
    let n = length c.args.nodes.now in let e = excess_of c.args.nodes.now in let I = c.loop-node.invariant in let k = c.loop-node.node-index in let G = c.given-gives.ensures in let L = c.given-taken.ensures in
    let takes = demand_is (e k) (to_z w64 (of_z w64 (pos 0 -ℤ to_z w64 (of_z w64 (e k))))) _ L.value (omega (arith, ints, c.if-unsigned_abs.false, c.unsigned_abs.ensures.value)) in (
      λ t. search rules,
      λ b. absurd (elim c.then-gives-most.branch [
        | then-gives-most-via-then-gives-most w ↦ omega (arith, ints, I.gives, I.gives_few, G.value, G.low, G.high, sum_more k (λ v. up (e v)), w.if-gives-most.true, (balanced_parts n e b (k + 1) (omega (arith, c.loop-node-test.true))).0)
        | then-gives-most-via-else-gives-most+then-taken-most w ↦ omega (arith, ints, I.taken, I.taken_few, takes, L.low, L.high, sum_more k (λ v. up (neg_ℤ (e v))), w.if-taken-most.true, (balanced_parts n e b (k + 1) (omega (arith, c.loop-node-test.true))).1)
      ]),
    )

-- after the last node
ended : (v n : ℕ) (f : ℕ → ℕ) (z : ℤ) → v ≡ n → z ≡ pos (sum_to v f) → z ≡ pos (sum_to n f)
ended v n f z e h = h ∙ ap (λ (k : ℕ). pos (sum_to k f)) e

pub returns : goal.returns
returns c =
    let n = length c.args.nodes.now in let e = excess_of c.args.nodes.now in let I = c.loop-node.invariant in
    let q : c.loop-node.node-index ≡ n = omega (arith, c.loop-node-test.false, c.loop-node.auto.node-index-end) in
    let gives = ended c.loop-node.node-index n (λ v. up (e v)) _ q I.gives in
    let takes = ended c.loop-node.node-index n (λ v. up (neg_ℤ (e v))) _ q I.taken in (
      λ t. let same : c.loop-node.gives-bits ≡ c.loop-node.taken-bits = search rules in is_balanced n e (omega (arith, ints, gives, I.gives_few)) (omega (arith, ints, gives, takes, ap (λ (b : ℕ). to_z w64 b) same)),
      λ b. let values : to_z w64 c.loop-node.gives-bits ≡ to_z w64 c.loop-node.taken-bits = omega (arith, ints, gives, takes, balanced_ends n e b) in
          let same : c.loop-node.gives-bits ≡ c.loop-node.taken-bits = sym (of_z-to_z c.loop-node.auto.gives) ∙ (ap (λ (z : ℤ). of_z w64 z) values ∙ of_z-to_z c.loop-node.auto.taken) in search rules,
    )
