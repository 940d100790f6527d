use Rattle.std.proofs.Common.{◌≡◌, ℕ, ◌-◌, ◌<◌, ◌≤◌, ℤ, ◌≤ℤ◌, length, slice_index, inl, inr, ap, arith, rules, w64, to_z, of_z}
use Rattle.std.proofs.lemmas.Int.{ints}
use Rattle.std.proofs.lemmas.Bool.{cases_eq}
use Rattle.net_search.specs.Label.{distance_of}
use Rattle.net_search.proofs.lists.nearest.Goals as goal

pub loop-k-preserved : goal.loop-k-preserved
loop-k-preserved c =
    let I = c.loop-k.invariant in let E = c.nearer.ensures in let r = c.nearer.result in let k = c.loop-k.k in
    let distance : ℕ → ℤ = (λ j. distance_of c.args.labels.now (slice_index c.args.nodes.now j)) in
    let fits : to_z w64 (of_z w64 (distance (k - 1))) ≡ distance (k - 1) = search rules in
    let low : (j : ℕ) → k - 1 ≤ j → j < length c.args.nodes.now → to_z w64 (of_z w64 r.0) ≤ℤ distance j = (λ j h l. elim (cases_eq j (k - 1)) [
      | inl e ↦ omega (arith, ints, E.first, ap distance e, fits)
      | inr n ↦ omega (arith, ints, E.second, I.least j (omega (arith, h, n)) l)
    ]) in
    elim E.either [
      | inl e ↦ (let e0 = ap (λ (p : ℤ × ℕ). p.0) e in let e1 = ap (λ (p : ℤ × ℕ). p.1) e in record { from = omega (arith, e1); index = omega (arith, e1, I.from, I.index, c.loop-k-test.true); value = omega (arith, ints, e0, ap distance e1, fits); least = low })
      | inr e ↦ (let e0 = ap (λ (p : ℤ × ℕ). p.0) e in let e1 = ap (λ (p : ℤ × ℕ). p.1) e in record { from = omega (arith, e1, I.from); index = omega (arith, e1, I.index); value = omega (arith, ints, e0, ap distance e1, I.value); least = low })
    ]
