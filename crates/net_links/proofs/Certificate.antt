-- No numbers cost less than a circulation shows.
use Rattle.std.proofs.Common.{◌≡◌, ℕ, ◌*◌, ◌<◌, Bool, true, false, cond, eqb, ℤ, pos, ◌+ℤ◌, ◌-ℤ◌, ◌*ℤ◌, neg_ℤ, ◌≤ℤ◌, sym, ap, ◌∙◌, inl, inr, mul-add, arith}
use borrow.Author.Differences.{up}
use Rattle.std.proofs.lemmas.Int.{ints}
use Rattle.sums.specs.Sum.{sum_ℤ}
use Rattle.sums.proofs.Ring.{mul_sub_ℤ, sub_mul_ℤ, mul_comm_ℤ, mul_zero_ℤ}
use Rattle.sums.proofs.Sum.{sum_ℤ_ext, sum_ℤ_le, sum_ℤ_sub, sum_ℤ_add, sum_ℤ_scale, sum_ℤ_zero, sum_ℤ_pos}
use Rattle.sums.proofs.Points.{sum_by}
use Rattle.net_graph.proofs.Points.{cases_lt_ℤ}
use Rattle.net_theory.proofs.Edge.{up_none, up_some}
use Rattle.net_dual.proofs.Dual.{arc_bound}
use Rattle.net_links.specs.Links.{Links, Numbers, beyond, rise, links_cost, Between, Circulation, lower_bound}
use Rattle.net_links.specs.Theorems.{CirculationBoundsCost, CertifiedIsLeast}

-- what is above 0 less what is below
parts : (z : ℤ) → (pos (up z) -ℤ pos (up (neg_ℤ z))) ≡ z
parts z = elim (cases_lt_ℤ z (pos 0)) [
  | inl l ↦ omega (arith, ints, up_none z (omega (arith, ints)), up_some (neg_ℤ z) (omega (arith, ints)))
  | inr l ↦ omega (arith, ints, up_some z l, up_none (neg_ℤ z) (omega (arith, ints)))
]

-- one link: x goes along it, and d is by how much it rise
link_bound : (p : ℕ) (x low high d : ℤ) → x ≤ℤ pos p → neg_ℤ x ≤ℤ pos p → ((x *ℤ d) +ℤ ((low *ℤ pos (up (neg_ℤ x))) -ℤ (high *ℤ pos (up x)))) ≤ℤ pos (p * beyond low high d)
link_bound p x low high d h k =
    let a = arc_bound x (pos p) high d h (omega (arith, ints)) in
    let b = arc_bound (neg_ℤ x) (pos p) (neg_ℤ low) (neg_ℤ d) k (omega (arith, ints)) in
    let e : (neg_ℤ d -ℤ neg_ℤ low) ≡ (low -ℤ d) = omega (arith, ints) in
    omega (
      arith,
      ints,
      a,
      b,
      ap (λ (z : ℤ). pos (up (neg_ℤ x)) *ℤ z) e,
      ap (λ (z : ℤ). pos p *ℤ pos (up z)) e,
      ap (λ (z : ℤ). z *ℤ d) (parts x),
      sub_mul_ℤ (pos (up x)) (pos (up (neg_ℤ x))) d,
      mul_sub_ℤ (pos (up x)) d high,
      mul_sub_ℤ (pos (up (neg_ℤ x))) low d,
      mul_comm_ℤ low (pos (up (neg_ℤ x))),
      mul_comm_ℤ high (pos (up x)),
      mul-add p (up (d -ℤ high)) (up (low -ℤ d)),
    )

module _ (l : Links) (nodes : ℕ) (x : ℕ → ℤ) (f : Between l nodes) (c : Circulation l nodes x) (u : Numbers) where
  -- what begins at node v, and what ends there
  abbrev begins : ℕ → ℕ → ℤ
  begins v i = cond (eqb (l.from i) v) (x i) (pos 0)

  abbrev ends : ℕ → ℕ → ℤ
  ends v i = cond (eqb (l.to i) v) (x i) (pos 0)

  at_node : (s : Bool) (k z : ℤ) → cond s (z *ℤ k) (pos 0) ≡ (k *ℤ cond s z (pos 0))
  at_node true k z = mul_comm_ℤ z k
  at_node false k z = sym (mul_zero_ℤ k)

  by_ends : (t : ℕ → ℕ) → ((i : ℕ) → i < l.count → t i < nodes) → sum_ℤ l.count (λ i. x i *ℤ u (t i)) ≡ sum_ℤ nodes (λ v. u v *ℤ sum_ℤ l.count (λ i. cond (eqb (t i) v) (x i) (pos 0)))
  by_ends t b =
      sym (sum_by l.count nodes t (λ i v. x i *ℤ u v) b)
      ∙ sum_ℤ_ext nodes (λ v. sum_ℤ l.count (λ i. cond (eqb (t i) v) (x i *ℤ u v) (pos 0))) (λ v. u v *ℤ sum_ℤ l.count (λ i. cond (eqb (t i) v) (x i) (pos 0)))
      (λ v h. sum_ℤ_ext l.count (λ i. cond (eqb (t i) v) (x i *ℤ u v) (pos 0)) (λ i. u v *ℤ cond (eqb (t i) v) (x i) (pos 0)) (λ i k. at_node (eqb (t i) v) (u v) (x i)) ∙ sum_ℤ_scale l.count (u v) (λ i. cond (eqb (t i) v) (x i) (pos 0)))

  -- along a circulation nothing rise in all
  pub level : sum_ℤ l.count (λ i. x i *ℤ rise l u i) ≡ pos 0
  level =
      omega (
        arith,
        ints,
        sum_ℤ_ext l.count (λ i. x i *ℤ rise l u i) (λ i. (x i *ℤ u (l.to i)) -ℤ (x i *ℤ u (l.from i))) (λ i h. mul_sub_ℤ (x i) (u (l.to i)) (u (l.from i))),
        sum_ℤ_sub l.count (λ i. x i *ℤ u (l.to i)) (λ i. x i *ℤ u (l.from i)),
        by_ends l.to f.to,
        by_ends l.from f.from,
        sum_ℤ_sub nodes (λ v. u v *ℤ sum_ℤ l.count (begins v)) (λ v. u v *ℤ sum_ℤ l.count (ends v)),
        sum_ℤ_zero nodes (λ v. (u v *ℤ sum_ℤ l.count (begins v)) -ℤ (u v *ℤ sum_ℤ l.count (ends v))) each,
      )
    where
      each : (v : ℕ) → v < nodes → ((u v *ℤ sum_ℤ l.count (begins v)) -ℤ (u v *ℤ sum_ℤ l.count (ends v))) ≡ pos 0
      each v h =
          omega (
            arith,
            ints,
            mul_sub_ℤ (u v) (sum_ℤ l.count (begins v)) (sum_ℤ l.count (ends v)),
            sum_ℤ_sub l.count (begins v) (ends v),
            ap (λ (z : ℤ). u v *ℤ z) (sym (sum_ℤ_sub l.count (begins v) (ends v)) ∙ c.conserved v h),
            mul_zero_ℤ (u v),
          )

  pub bounds : lower_bound l x ≤ℤ pos (links_cost l u)
  unfolding lower_bound links_cost
  bounds =
      let part : ℕ → ℤ = λ i. (l.low i *ℤ pos (up (neg_ℤ (x i)))) -ℤ (l.high i *ℤ pos (up (x i))) in
      omega (
        arith,
        ints,
        level,
        sum_ℤ_add l.count (λ i. x i *ℤ rise l u i) part,
        sum_ℤ_pos l.count (λ i. l.price i * beyond (l.low i) (l.high i) (rise l u i)),
        sum_ℤ_le l.count (λ i. (x i *ℤ rise l u i) +ℤ part i) (λ i. pos (l.price i * beyond (l.low i) (l.high i) (rise l u i)))
            (λ i h. link_bound (l.price i) (x i) (l.low i) (l.high i) (rise l u i) (omega (arith, ints, c.within i h)) (omega (arith, ints, c.within i h))),
      )

pub circulation_bounds_cost : CirculationBoundsCost
circulation_bounds_cost l nodes x b c u = bounds l nodes x b c u

pub certified_is_least : CertifiedIsLeast
certified_is_least l nodes v x b c u = omega (arith, ints, c.reached, bounds l nodes x b c.circulation u)
