-- Step by step from the end of a way.
use Rattle.std.proofs.Common.{◌≡◌, ℕ, zero, suc, ◌+◌, ◌-◌, ◌<◌, ◌≤◌, ◌≢◌, ◌⊎◌, Bool, true, false, cond, eqb, List, length, ℤ, pos, negsuc, ◌+ℤ◌, ◌-ℤ◌, ◌≤ℤ◌, ◌<ℤ◌, neg_ℤ, nat_abs, sym, ap, ap₂, ◌∙◌, subst, refl, inl, inr, arith}
use Rattle.std.proofs.lemmas.Int.{ints}
use Rattle.std.proofs.lemmas.Bool.{cases_eq, both_ways, eq-eqb, ne_eqb, cond-true, cond-false}
use Rattle.net_cells.specs.Net.{Residual, Feasible, Ready, back, out, unit, reduced}
use Rattle.net_cells.specs.Search.{Step, Track, start, step}
use Rattle.net_cells.specs.Moves.{Fits, Moved, at}
use Rattle.net_cells.specs.Lists.{view, head, signed, inner_of, flow_in, flow_of, cost_in}
use Rattle.net_cells.specs.Fenced.{Fenced}
use Rattle.net_cells.specs.declared.cell.Cell.{Cell}
use Rattle.net_cells.specs.declared.cell.Costs.{Costs}
use Rattle.net_cells.specs.declared.cell.Flows.{Flows}
use Rattle.net_cells.specs.declared.cell.Mark.{Mark}
use Rattle.net_cells.specs.declared.side.Side.{Side}
use Rattle.net_cells_theory.specs.Slots.{Pushed}
use Rattle.net_cells_theory.proofs.Slots.{flow_back}
use Rattle.net_cells_theory.proofs.Edge.{unit_price}
use Rattle.net_cells_theory.proofs.Move.{moving_keeps}
use Rattle.net_cells_theory.proofs.Tracks.{same_length, changed, short}
use Rattle.net_cells_theory.proofs.Ways.{back_less, back_other}
use Rattle.net_cells_search.specs.Marks.{way_of}
use Rattle.net_cells_search.specs.Room.{Led}
use Rattle.net_cells_solve.specs.Walk.{tail, Goes, Sendable, depth, Leads, Takes, LeadsTo, TakesTo, Most, Sending}

pub split : (source : ℕ) (from : ℕ → ℕ) (P : ℕ → Type 0) (v n : ℕ) → (v ≢ source) → Track source from P v n → (m : ℕ) × ((n ≡ suc m) × (P v × Track source from P (from v) m))
split source from P v zero ne start = absurd (ne refl)
split source from P v (suc n) ne (step v' n' ne' p t) = (n, (refl, (p, t)))

depth_is : (f source : ℕ) (from : ℕ → ℕ) (P : ℕ → Type 0) (v n : ℕ) → n < f → Track source from P v n → depth f source from v ≡ n
unfolding depth
depth_is zero source from P v n l t = absurd (omega arith)
depth_is (suc f) source from P v zero l start = cond-true (eqb source source) 0 (suc (depth f source from (from source))) (eq-eqb source source refl)
depth_is (suc f) source from P v (suc n) l (step v' n' ne p t) =
    cond-false (eqb v source) 0 (suc (depth f source from (from v))) (ne_eqb v source ne) ∙ ap suc (depth_is f source from P (from v) n (omega arith) t)

-- the way back is shorter after each step
pub nearer : (m source : ℕ) (from : ℕ → ℕ) (P : ℕ → Type 0) (v : ℕ) → ((x : ℕ) → P x → from x < m) → v < m → (v ≢ source) → (n : ℕ) × Track source from P v n → depth m source from (from v) < depth m source from v
nearer m source from P v w l ne t =
    let s = split source from P v t.0 ne t.1 in
    let k : t.0 < m = short source from P m v t.0 w l t.1 in
    omega (arith, s.1.0, depth_is m source from P v t.0 k t.1, depth_is m source from P (from v) s.0 (omega (arith, s.1.0, k)) s.1.1.1)

pub fits_is : (b z : ℤ) → pos 0 ≤ℤ b → (z <ℤ pos 0 → b ≤ℤ neg_ℤ z) → Fits b z
fits_is b (pos n) p q = p
fits_is b (negsuc n) p q = (p, omega (arith, ints, q (omega (arith, ints))))

-- four numbers of which one changes
pub out_change : (f h : ℕ → ℤ) (d : ℕ) (a : ℤ) → d < 4 → h d ≡ f d +ℤ a → ((e : ℕ) → e < 4 → (e ≢ d) → h e ≡ f e) →
    ((h 0 +ℤ h 1) +ℤ h 2) +ℤ h 3 ≡ (((f 0 +ℤ f 1) +ℤ f 2) +ℤ f 3) +ℤ a
out_change f h zero a l p q = omega (arith, ints, p, q 1 (omega arith) (omega arith), q 2 (omega arith) (omega arith), q 3 (omega arith) (omega arith))
out_change f h (suc zero) a l p q = omega (arith, ints, p, q 0 (omega arith) (omega arith), q 2 (omega arith) (omega arith), q 3 (omega arith) (omega arith))
out_change f h (suc (suc zero)) a l p q = omega (arith, ints, p, q 0 (omega arith) (omega arith), q 1 (omega arith) (omega arith), q 3 (omega arith) (omega arith))
out_change f h (suc (suc (suc zero))) a l p q = omega (arith, ints, p, q 0 (omega arith) (omega arith), q 1 (omega arith) (omega arith), q 2 (omega arith) (omega arith))
out_change f h (suc (suc (suc (suc d)))) a l p q = absurd (omega arith)

pub at_same : (k i : ℕ) (z : ℤ) → i ≡ k → at k z i ≡ z
at_same k i z e = cond-true (eqb i k) z (pos 0) (eq-eqb i k e)

pub at_other : (k i : ℕ) (z : ℤ) → (i ≢ k) → at k z i ≡ pos 0
at_other k i z ne = cond-false (eqb i k) z (pos 0) (ne_eqb i k ne)

pub opposite : (flows : List Flows) (side : Side) (u d : ℕ) → 1 ≤ side.stride → side.stride < u → d < 4 → flow_in flows side (head side.stride u d) (back d) ≡ neg_ℤ (flow_in flows side u d)
unfolding flow_in
opposite flows side u d one low l = ap (signed side.back) (flow_back flows side.stride u d one low l) ∙ signed_neg side.back (flow_of flows side.stride u d)
  where
    signed_neg : (b : Bool) (z : ℤ) → signed b (neg_ℤ z) ≡ neg_ℤ (signed b z)
    signed_neg true z = refl
    signed_neg false z = refl

module _ (cells : List Cell) (flows0 flows flows' : List Flows) (costs0 costs costs' : List Costs) (side : Side) (marks : List Mark) (source target v : ℕ) (a : ℤ)
    (fence : (u : ℕ) → inner_of cells u ≡ true → side.stride < u) (within : (u : ℕ) → inner_of cells u ≡ true → u < length cells) (s : Sending cells flows0 flows costs0 costs side marks source target v a) (ne : v ≢ source)
    (one : 1 ≤ side.stride)
    (m : Pushed flows flows' costs costs' side (tail side.stride marks v) (way_of marks v) a) where
  abbrev g : Residual
  g = view cells costs side

  abbrev h : Residual
  h = view cells costs' side

  abbrev from : ℕ → ℕ
  from = tail side.stride marks

  abbrev u : ℕ
  u = from v

  abbrev d : ℕ
  d = way_of marks v

  abbrev Old : ℕ → Type 0
  Old = Goes g (flow_in flows0 side) (flow_in flows side) from (way_of marks) a

  abbrev New : ℕ → Type 0
  New = Goes h (flow_in flows0 side) (flow_in flows' side) from (way_of marks) a

  abbrev Parts : Type 0
  Parts = (n : ℕ) × ((s.track.0 ≡ suc n) × (Old v × Track source from Old (from v) n))

  parts : Parts
  parts = split source from Old v s.track.0 ne s.track.1

  goes : Old v
  goes = parts.1.1.0

  inner : inner_of cells u ≡ true
  inner = goes.step.inner

  moved : Moved u d a g h (flow_in flows side) (flow_in flows' side)
  moved = record {
    here = m.here;
    there = m.there;
    other = λ w e i k p q. m.other w e (fence w i) k p q;
    cost_here = m.cost_here;
    cost_there = m.cost_there;
    cost_other = λ w e k p q. m.cost_other w e k p q;
    inner = λ w. refl;
    head = λ w e. refl;
    potential = λ w. refl;
  }

  kept : Feasible h × Ready h (flow_in flows' side)
  kept =
      moving_keeps g h (flow_in flows side) (flow_in flows' side) u d a s.feasible s.ready inner goes.step.is_way (opposite flows side u d one (fence u inner) goes.step.is_way) goes.step.tight
      (subst (Fits a) (sym goes.same) goes.fits) moved

  -- the other steps of the way stay as they are
  stays : (x n : ℕ) → n ≤ parts.0 → (x ≢ source) → Track source from Old x n → Old x → New x
  stays x n l nx t p = record {
    step = record { inner = p.step.inner; is_way = p.step.is_way; head = p.step.head; tight = omega (arith, ints, p.step.tight, m.cost_other (from x) (way_of marks x) p.step.is_way first second) };
    fits = p.fits;
    same = m.other (from x) (way_of marks x) (fence (from x) p.step.inner) p.step.is_way first second ∙ p.same;
  }
    where
      first : from x ≡ u → way_of marks x ≡ d → ⊥
      first y z =
          let e : x ≡ v = sym p.step.head ∙ (ap₂ (head side.stride) y z ∙ goes.step.head) in
          absurd (omega (arith, same_length source from Old Old v n s.track.0 (subst (λ (w : ℕ). Track source from Old w n) e t) s.track.1, parts.1.0))

      second : from x ≡ head side.stride u d → way_of marks x ≡ back d → ⊥
      second y z =
          let e : x ≡ u = sym p.step.head ∙ (ap₂ (head side.stride) y z ∙ s.feasible.paired.home u d inner goes.step.is_way) in
          let r = split source from Old x n nx t in
          let f : from x ≡ v = y ∙ goes.step.head in
          absurd (omega (arith, r.1.0, same_length source from Old Old v r.0 s.track.0 (subst (λ (w : ℕ). Track source from Old w r.0) f r.1.1.1) s.track.1, parts.1.0))

  price : (w e : ℕ) → inner_of cells w ≡ true → e < 4 → nat_abs (cost_in costs' side w e) ≡ nat_abs (cost_in costs0 side w e)
  price w e i k = same_price ∙ s.price w e i k
    where
      same_price : nat_abs (cost_in costs' side w e) ≡ nat_abs (cost_in costs side w e)
      same_price = elim (cases_eq w u) [
        | inl y ↦ elim (cases_eq e d) [
          | inl z ↦ ap₂ (λ (x f : ℕ). nat_abs (cost_in costs' side x f)) y z ∙ (ap nat_abs m.cost_here ∙ (unit_price (nat_abs (cost_in costs side u d)) (flow_in flows' side u d) ∙ sym (ap₂ (λ (x f : ℕ). nat_abs (cost_in costs side x f)) y z)))
          | inr z ↦ ap nat_abs (m.cost_other w e k (λ _ f. z f) (λ x _. s.feasible.paired.apart u d inner goes.step.is_way (sym x ∙ y)))
        ]
        | inr y ↦ elim (cases_eq w (head side.stride u d)) [
          | inl x ↦ elim (cases_eq e (back d)) [
            | inl z ↦ ap₂ (λ (x f : ℕ). nat_abs (cost_in costs' side x f)) x z ∙ (ap nat_abs m.cost_there ∙ (unit_price (nat_abs (cost_in costs side u d)) (neg_ℤ (flow_in flows' side u d)) ∙ (sym (other_end x z) ∙ sym (ap₂ (λ (x f : ℕ). nat_abs (cost_in costs side x f)) x z))))
            | inr z ↦ ap nat_abs (m.cost_other w e k (λ f _. y f) (λ _ f. z f))
          ]
          | inr x ↦ ap nat_abs (m.cost_other w e k (λ f _. y f) (λ f _. x f))
        ]
      ]
        where
          other_end : w ≡ head side.stride u d → e ≡ back d → nat_abs (cost_in costs side (head side.stride u d) (back d)) ≡ nat_abs (cost_in costs side u d)
          other_end x z = ap nat_abs (s.ready.there u d inner goes.step.is_way) ∙ unit_price (nat_abs (cost_in costs side u d)) (neg_ℤ (flow_in flows side u d))

  grown : (w e : ℕ) → inner_of cells w ≡ true → e < 4 → nat_abs (flow_in flows' side w e) ≤ nat_abs (flow_in flows0 side w e) + nat_abs a
  grown w e i k = elim (cases_eq w u) [
    | inl y ↦ elim (cases_eq e d) [
      | inl z ↦ at_here y z
      | inr z ↦ omega (arith, ap nat_abs (m.other w e (fence w i) k (λ _ f. z f) (λ x _. s.feasible.paired.apart u d inner goes.step.is_way (sym x ∙ y))), s.grown w e i k)
    ]
    | inr y ↦ elim (cases_eq w (head side.stride u d)) [
      | inl x ↦ elim (cases_eq e (back d)) [
        | inl z ↦ at_there x z
        | inr z ↦ omega (arith, ap nat_abs (m.other w e (fence w i) k (λ f _. y f) (λ _ f. z f)), s.grown w e i k)
      ]
      | inr x ↦ omega (arith, ap nat_abs (m.other w e (fence w i) k (λ f _. y f) (λ f _. x f)), s.grown w e i k)
    ]
  ]
    where
      first_flow : nat_abs (flow_in flows0 side u d +ℤ a) ≤ nat_abs (flow_in flows0 side u d) + nat_abs a
      first_flow = omega (arith, ints)

      at_here : w ≡ u → e ≡ d → nat_abs (flow_in flows' side w e) ≤ nat_abs (flow_in flows0 side w e) + nat_abs a
      at_here y z =
          omega (arith, ap₂ (λ (x f : ℕ). nat_abs (flow_in flows' side x f)) y z, ap₂ (λ (x f : ℕ). nat_abs (flow_in flows0 side x f)) y z, ap nat_abs m.here, ap (λ (x : ℤ). nat_abs (x +ℤ a)) goes.same, first_flow)

      at_there : w ≡ head side.stride u d → e ≡ back d → nat_abs (flow_in flows' side w e) ≤ nat_abs (flow_in flows0 side w e) + nat_abs a
      at_there x z =
          omega (
            arith,
            ints,
            ap₂ (λ (x f : ℕ). nat_abs (flow_in flows' side x f)) x z,
            ap nat_abs (back_there ∙ ap (λ (y : ℤ). neg_ℤ y) (m.here ∙ ap (λ (y : ℤ). y +ℤ a) goes.same)),
            first_flow,
            there0 x z,
          )
        where
          back_there : flow_in flows' side (head side.stride u d) (back d) ≡ neg_ℤ (flow_in flows' side u d)
          back_there = omega (arith, ints, m.there, m.here, opposite flows side u d one (fence u inner) goes.step.is_way)

          there0 : w ≡ head side.stride u d → e ≡ back d → nat_abs (flow_in flows0 side w e) ≡ nat_abs (flow_in flows0 side u d)
          there0 x z = omega (arith, ints, ap₂ (λ (y f : ℕ). nat_abs (flow_in flows0 side y f)) x z, opposite flows0 side u d one (fence u inner) goes.step.is_way)

  flows_out : (w : ℕ) → inner_of cells w ≡ true → out (flow_in flows' side) w ≡ (out (flow_in flows0 side) w +ℤ at u a w) -ℤ at target a w
  flows_out w i = elim (cases_eq w u) [
    | inl y ↦ (let c = out_change (flow_in flows side u) (flow_in flows' side u) d a goes.step.is_way m.here (λ e k z. m.other u e (fence u inner) k (λ _ f. z f) (λ f _. apart (sym f))) in
        omega (arith, ints, s.flows_out w i, at_same u w a y, at_other v w a (λ f. apart (goes.step.head ∙ (sym f ∙ y))), ap (out (flow_in flows' side)) y, ap (out (flow_in flows side)) y, c))
    | inr y ↦ elim (cases_eq w v) [
      | inl x ↦ (let c = out_change (flow_in flows side (head side.stride u d)) (flow_in flows' side (head side.stride u d)) (back d) (neg_ℤ a) (back_less d goes.step.is_way) (omega (arith, ints, m.there)) (λ e k z. m.other (head side.stride u d) e (fence (head side.stride u d) (subst (λ (q : ℕ). inner_of cells q ≡ true) (x ∙ sym goes.step.head) i)) k (λ f _. apart f) (λ _ f. z f)) in
          omega (arith, ints, s.flows_out w i, at_other u w a y, at_same v w a x, ap (out (flow_in flows' side)) (x ∙ sym goes.step.head), ap (out (flow_in flows side)) (x ∙ sym goes.step.head), c))
      | inr x ↦ omega (arith, ints, s.flows_out w i, at_other u w a y, at_other v w a x, still 0 (omega arith) y x, still 1 (omega arith) y x, still 2 (omega arith) y x, still 3 (omega arith) y x)
    ]
  ]
    where
      apart : (head side.stride u d ≢ u)
      apart = s.feasible.paired.apart u d inner goes.step.is_way

      still : (e : ℕ) → e < 4 → (w ≢ u) → (w ≢ v) → flow_in flows' side w e ≡ flow_in flows side w e
      still e k y x = m.other w e (fence w i) k (λ f _. y f) (λ f _. x (f ∙ goes.step.head))

  pub sent_on : Sending cells flows0 flows' costs0 costs' side marks source target u a
  sent_on = record {
    cell = within u inner;
    feasible = kept.0;
    ready = kept.1;
    track = (parts.0, changed source from Old New u parts.0 parts.1.1.1 stays);
    price = price;
    grown = grown;
    flows_out = flows_out;
    right = λ w i j. m.right w (λ e. both_ways (inner_of cells w) i (ap (inner_of cells) e ∙ inner)) (λ e. both_ways (inner_of cells (w + 1)) j (ap (inner_of cells) e ∙ inner)) ∙ s.right w i j;
    up = λ w i j. m.up w (λ e. both_ways (inner_of cells w) i (ap (inner_of cells) e ∙ inner)) (λ e. both_ways (inner_of cells (w - side.stride)) j (ap (inner_of cells) e ∙ inner)) ∙ s.up w i j;
  }

-- two tracks back from one cell are one
pub both : (source : ℕ) (from : ℕ → ℕ) (P Q R : ℕ → Type 0) (v m n : ℕ) → m ≡ n → ((x : ℕ) → P x → Q x → R x) → Track source from P v m → Track source from Q v n → Track source from R v m
both source from P Q R v zero zero e f start t = start
both source from P Q R v zero (suc n) e f s t = absurd (omega (arith, e))
both source from P Q R v (suc m) zero e f s t = absurd (omega (arith, e))
both source from P Q R v (suc m) (suc n) e f (step v' m' ne p s) t =
    let r = split source from Q v (suc n) ne t in
    step v m ne (f v p r.1.1.0) (both source from P Q R (from v) m r.0 (omega (arith, e, r.1.0)) f s r.1.1.1)

-- so much still goes one step further back
pub less_most : (cells : List Cell) (flows : List Flows) (side : Side) (marks : List Mark) (source target v : ℕ) (least least' : ℤ) → ((u : ℕ) → inner_of cells u ≡ true → u < length cells) → (v ≢ source) →
    least' ≤ℤ least → pos 0 <ℤ least' → (flow_in flows side (tail side.stride marks v) (way_of marks v) <ℤ pos 0 → least' ≤ℤ neg_ℤ (flow_in flows side (tail side.stride marks v) (way_of marks v))) →
    Most cells flows side marks source target v least → Most cells flows side marks source target (tail side.stride marks v) least'
less_most cells flows side marks source target v least least' within ne l some fits m =
    record {
      cell = within (tail side.stride marks v) leads.inner;
      leads = (parts.0, parts.1.1.1);
      some = some;
      enough = omega (arith, ints, m.enough);
      wanted = λ i. omega (arith, ints, m.wanted i);
      rest = λ b p q t. m.rest b p (omega (arith, ints)) (suc t.0, step v t.0 ne (record { leads = leads; fits = fits_is b _ p (λ h. omega (arith, ints, fits h)) }) t.1);
    }
  where
    parts : (k : ℕ) × ((m.leads.0 ≡ suc k) × (Leads cells side marks v × Track source (tail side.stride marks) (Leads cells side marks) (tail side.stride marks v) k))
    parts = split source (tail side.stride marks) (Leads cells side marks) v m.leads.0 ne m.leads.1

    leads : Leads cells side marks v
    leads = parts.1.1.0

-- the step that leads to a cell on the way
pub led_by : (cells : List Cell) (side : Side) (marks : List Mark) (source v : ℕ) → (v ≢ source) → LeadsTo cells side marks source v → Leads cells side marks v
led_by cells side marks source v ne t = (split source (tail side.stride marks) (Leads cells side marks) v t.0 ne t.1).1.1.0

pub fewer : (cells : List Cell) (side : Side) (marks : List Mark) (source v : ℕ) → ((u : ℕ) → inner_of cells u ≡ true → u < length cells) → v < length cells → (v ≢ source) → LeadsTo cells side marks source v →
    depth (length cells) source (tail side.stride marks) (tail side.stride marks v) < depth (length cells) source (tail side.stride marks) v
fewer cells side marks source v within l ne t = nearer (length cells) source (tail side.stride marks) (Leads cells side marks) v (λ x p. within (tail side.stride marks x) p.inner) l ne t

-- at the source
pub most_all : (cells : List Cell) (flows : List Flows) (side : Side) (marks : List Mark) (source target v : ℕ) (least : ℤ) → v ≡ source → Most cells flows side marks source target v least → TakesTo cells flows side marks source least target
most_all cells flows side marks source target v least e m =
    m.rest least (omega (arith, ints, m.some)) (omega (arith, ints)) (0, subst (λ (x : ℕ). Track source (tail side.stride marks) (Takes cells flows side marks least) x 0) (sym e) start)

-- the step by which an amount goes to v
pub going_by : (cells : List Cell) (flows0 flows : List Flows) (costs0 costs : List Costs) (side : Side) (marks : List Mark) (source target v : ℕ) (a : ℤ) → (v ≢ source) → Sending cells flows0 flows costs0 costs side marks source target v a →
    Goes (view cells costs side) (flow_in flows0 side) (flow_in flows side) (tail side.stride marks) (way_of marks) a v
going_by cells flows0 flows costs0 costs side marks source target v a ne s =
    (split source (tail side.stride marks) (Goes (view cells costs side) (flow_in flows0 side) (flow_in flows side) (tail side.stride marks) (way_of marks) a) v s.track.0 ne s.track.1).1.1.0

pub fewer_to_go : (cells : List Cell) (flows0 flows : List Flows) (costs0 costs : List Costs) (side : Side) (marks : List Mark) (source target v : ℕ) (a : ℤ) → ((u : ℕ) → inner_of cells u ≡ true → u < length cells) → (v ≢ source) →
    Sending cells flows0 flows costs0 costs side marks source target v a →
    depth (length cells) source (tail side.stride marks) (tail side.stride marks v) < depth (length cells) source (tail side.stride marks) v
fewer_to_go cells flows0 flows costs0 costs side marks source target v a within ne s =
    nearer (length cells) source (tail side.stride marks) (Goes (view cells costs side) (flow_in flows0 side) (flow_in flows side) (tail side.stride marks) (way_of marks) a) v
    (λ x p. within (tail side.stride marks x) p.step.inner) s.cell ne s.track

-- what a search answers is such a way
pub leads : (cells : List Cell) (costs : List Costs) (side : Side) (marks : List Mark) (source v : ℕ) → Led (view cells costs side) marks source v → LeadsTo cells side marks source v
leads cells costs side marks source v t =
    (t.0, changed source (tail side.stride marks) (Step (view cells costs side) (tail side.stride marks) (way_of marks)) (Leads cells side marks) v t.0 t.1 (λ x m _ _ _ p. record { inner = p.inner; is_way = p.is_way; head = p.head }))

pub sendable : (cells : List Cell) (flows : List Flows) (costs : List Costs) (side : Side) (marks : List Mark) (source v : ℕ) (a : ℤ) → Led (view cells costs side) marks source v → TakesTo cells flows side marks source a v →
    Sendable cells flows flows costs side marks source a v
sendable cells flows costs side marks source v a t s = (
  t.0,
  both source (tail side.stride marks) (Step (view cells costs side) (tail side.stride marks) (way_of marks)) (Takes cells flows side marks a)
      (Goes (view cells costs side) (flow_in flows side) (flow_in flows side) (tail side.stride marks) (way_of marks) a) v t.0 s.0
      (same_length source (tail side.stride marks) (Step (view cells costs side) (tail side.stride marks) (way_of marks)) (Takes cells flows side marks a) v t.0 s.0 t.1 s.1)
      (λ x p q. record { step = p; fits = q.fits; same = refl }) t.1 s.1,
)
