-- Edges by the cells at their ends: where flows and costs are written.
use Rattle.std.proofs.Common.{◌≡◌, ℕ, zero, suc, ◌+◌, ◌-◌, ◌<◌, ◌≤◌, ◌≢◌, ℤ, pos, ◌+ℤ◌, ◌-ℤ◌, neg_ℤ, List, sym, ap, ap₂, ◌∙◌, refl, Bool, true, false, arith}
use Rattle.std.proofs.lemmas.Int.{ints}
use Rattle.net_cells.specs.Net.{back, of_four}
use Rattle.net_cells.specs.Lists.{head, right_of, up_of, flow_of}
use Rattle.net_cells_theory.specs.Slots.{Added}
use Rattle.net_cells.specs.declared.cell.Flows.{Flows}

pub head_home : (s w e x : ℕ) → e < 4 → 1 ≤ x → head s w e ≡ x → head s x (back e) ≡ w
unfolding head back
head_home s w zero x l p q = omega arith
head_home s w (suc zero) x l p q = omega arith
head_home s w (suc (suc zero)) x l p q = omega arith
head_home s w (suc (suc (suc zero))) x l p q = omega arith
head_home s w (suc (suc (suc (suc e)))) x l p q = absurd (omega arith)

pub head_some : (s u d : ℕ) → 1 ≤ s → s < u → 1 ≤ head s u d
unfolding head
head_some s u zero a b = omega arith
head_some s u (suc zero) a b = omega arith
head_some s u (suc (suc zero)) a b = omega arith
head_some s u (suc (suc (suc d))) a b = omega arith

pub head_apart : (s u d : ℕ) → 1 ≤ s → s < u → (head s u d ≢ u)
unfolding head
head_apart s u zero a b e = omega (arith, e)
head_apart s u (suc zero) a b e = omega (arith, e)
head_apart s u (suc (suc zero)) a b e = omega (arith, e)
head_apart s u (suc (suc (suc d))) a b e = omega (arith, e)

-- what flows by a way flows back by the same step the other way
pub flow_back : (flows : List Flows) (s u d : ℕ) → 1 ≤ s → s < u → d < 4 → flow_of flows s (head s u d) (back d) ≡ neg_ℤ (flow_of flows s u d)
unfolding head back flow_of
flow_back flows s u zero a b l = let e : (u + 1) - 1 ≡ u = omega arith in ap (λ (x : ℕ). neg_ℤ (right_of flows x)) e
flow_back flows s u (suc zero) a b l = omega (arith, ints)
flow_back flows s u (suc (suc zero)) a b l = let e : (u - s) + s ≡ u = omega arith in ap (λ (x : ℕ). neg_ℤ (up_of flows x)) e
flow_back flows s u (suc (suc (suc zero))) a b l = omega (arith, ints)
flow_back flows s u (suc (suc (suc (suc d)))) a b l = absurd (omega arith)

module _ (flows flows' : List Flows) (s u : ℕ) (z : ℤ) (p : 1 ≤ s) (q : s < u) where
  pub added_right : right_of flows' u ≡ right_of flows u +ℤ z → ((w : ℕ) → (w ≢ u) → right_of flows' w ≡ right_of flows w) → ((w : ℕ) → up_of flows' w ≡ up_of flows w) → Added flows flows' s u 0 z
  unfolding head back flow_of
  added_right h k m = record { here = h; other = other; right = λ w a b. k w a; up = λ w a b. m w }
    where
      other : (w e : ℕ) → s < w → e < 4 → (w ≡ u → e ≡ 0 → ⊥) → (w ≡ u + 1 → e ≡ 1 → ⊥) →
          of_four e (right_of flows' w) (neg_ℤ (right_of flows' (w - 1))) (up_of flows' w) (neg_ℤ (up_of flows' (w + s))) ≡ of_four e (right_of flows w) (neg_ℤ (right_of flows (w - 1))) (up_of flows w) (neg_ℤ (up_of flows (w + s)))
      other w zero i l a b = k w (λ e. a e refl)
      other w (suc zero) i l a b = ap neg_ℤ (k (w - 1) (λ e. b (omega (arith, e)) refl))
      other w (suc (suc zero)) i l a b = m w
      other w (suc (suc (suc e))) i l a b = ap neg_ℤ (m (w + s))

  pub added_left : right_of flows' (u - 1) ≡ right_of flows (u - 1) -ℤ z → ((w : ℕ) → (w ≢ u - 1) → right_of flows' w ≡ right_of flows w) → ((w : ℕ) → up_of flows' w ≡ up_of flows w) → Added flows flows' s u 1 z
  unfolding head back flow_of
  added_left h k m = record { here = omega (arith, ints, h); other = other; right = λ w a b. k w (λ e. b (omega (arith, e))); up = λ w a b. m w }
    where
      other : (w e : ℕ) → s < w → e < 4 → (w ≡ u → e ≡ 1 → ⊥) → (w ≡ u - 1 → e ≡ 0 → ⊥) →
          of_four e (right_of flows' w) (neg_ℤ (right_of flows' (w - 1))) (up_of flows' w) (neg_ℤ (up_of flows' (w + s))) ≡ of_four e (right_of flows w) (neg_ℤ (right_of flows (w - 1))) (up_of flows w) (neg_ℤ (up_of flows (w + s)))
      other w zero i l a b = k w (λ e. b e refl)
      other w (suc zero) i l a b = ap neg_ℤ (k (w - 1) (λ e. a (omega (arith, e)) refl))
      other w (suc (suc zero)) i l a b = m w
      other w (suc (suc (suc e))) i l a b = ap neg_ℤ (m (w + s))

  pub added_up : up_of flows' u ≡ up_of flows u +ℤ z → ((w : ℕ) → (w ≢ u) → up_of flows' w ≡ up_of flows w) → ((w : ℕ) → right_of flows' w ≡ right_of flows w) → Added flows flows' s u 2 z
  unfolding head back flow_of
  added_up h k m = record { here = h; other = other; right = λ w a b. m w; up = λ w a b. k w a }
    where
      other : (w e : ℕ) → s < w → e < 4 → (w ≡ u → e ≡ 2 → ⊥) → (w ≡ u - s → e ≡ 3 → ⊥) →
          of_four e (right_of flows' w) (neg_ℤ (right_of flows' (w - 1))) (up_of flows' w) (neg_ℤ (up_of flows' (w + s))) ≡ of_four e (right_of flows w) (neg_ℤ (right_of flows (w - 1))) (up_of flows w) (neg_ℤ (up_of flows (w + s)))
      other w zero i l a b = m w
      other w (suc zero) i l a b = ap neg_ℤ (m (w - 1))
      other w (suc (suc zero)) i l a b = k w (λ e. a e refl)
      other w (suc (suc (suc zero))) i l a b = ap neg_ℤ (k (w + s) (λ e. b (omega (arith, e)) refl))
      other w (suc (suc (suc (suc e)))) i l a b = absurd (omega arith)

  pub added_down : up_of flows' (u + s) ≡ up_of flows (u + s) -ℤ z → ((w : ℕ) → (w ≢ u + s) → up_of flows' w ≡ up_of flows w) → ((w : ℕ) → right_of flows' w ≡ right_of flows w) → Added flows flows' s u 3 z
  unfolding head back flow_of
  added_down h k m = record { here = omega (arith, ints, h); other = other; right = λ w a b. m w; up = λ w a b. k w (λ e. b (omega (arith, e))) }
    where
      other : (w e : ℕ) → s < w → e < 4 → (w ≡ u → e ≡ 3 → ⊥) → (w ≡ u + s → e ≡ 2 → ⊥) →
          of_four e (right_of flows' w) (neg_ℤ (right_of flows' (w - 1))) (up_of flows' w) (neg_ℤ (up_of flows' (w + s))) ≡ of_four e (right_of flows w) (neg_ℤ (right_of flows (w - 1))) (up_of flows w) (neg_ℤ (up_of flows (w + s)))
      other w zero i l a b = m w
      other w (suc zero) i l a b = ap neg_ℤ (m (w - 1))
      other w (suc (suc zero)) i l a b = k w (λ e. b e refl)
      other w (suc (suc (suc zero))) i l a b = ap neg_ℤ (k (w + s) (λ e. a (omega (arith, e)) refl))
      other w (suc (suc (suc (suc e)))) i l a b = absurd (omega arith)
