-- Tracks back to a source.
use Rattle.std.proofs.Common.{◌≡◌, ℕ, zero, suc, ◌+◌, ◌<◌, ◌≤◌, ◌≢◌, ◌⊎◌, Bool, true, false, cond, eqb, sym, refl, ap, ◌∙◌, subst, inl, inr, arith}
use Rattle.std.proofs.lemmas.Bool.{cases_eq, cases_Bool, both_ways, eq-eqb, ne_eqb, cond-true, cond-false}
use Rattle.sums.specs.Sum.{sum_to}
use Rattle.sums.proofs.Sum.{sum_change, sum_spike, sum_at_most}
use Rattle.net_cells.specs.Search.{Track, start, step, one_for}
use Rattle.net_cells_theory.proofs.Falls.{one_at_most}

-- a cell is on no two tracks of different lengths
length_at : (source : ℕ) (from : ℕ → ℕ) (P Q : ℕ → Type 0) (v w m n : ℕ) → v ≡ w → Track source from P v m → Track source from Q w n → m ≡ n
length_at source from P Q v w zero zero e start start = refl
length_at source from P Q v w zero (suc n) e start (step w' n' ne p t) = absurd (ne (sym e))
length_at source from P Q v w (suc m) zero e (step v' m' ne p t) start = absurd (ne e)
length_at source from P Q v w (suc m) (suc n) e (step v' m' ne p t) (step w' n' ne' p' t') = ap suc (length_at source from P Q (from v) (from w) m n (ap from e) t t')

pub same_length : (source : ℕ) (from : ℕ → ℕ) (P Q : ℕ → Type 0) (v m n : ℕ) → Track source from P v m → Track source from Q v n → m ≡ n
same_length source from P Q v m n s t = length_at source from P Q v v m n refl s t

-- what is said of each step may be changed
pub changed : (source : ℕ) (from : ℕ → ℕ) (P Q : ℕ → Type 0) (v n : ℕ) → Track source from P v n →
    ((x m : ℕ) → m ≤ n → (x ≢ source) → Track source from P x m → P x → Q x) → Track source from Q v n
changed source from P Q v zero start f = start
changed source from P Q v (suc n) (step v' n' ne p t) f =
    step v n ne (f v (suc n) (omega arith) ne (step v n ne p t) p) (changed source from P Q (from v) n t (λ x m l z s q. f x m (omega arith) z s q))

-- a track is shorter than there are cells
record Covers (source : ℕ) (from : ℕ → ℕ) (P : ℕ → Type 0) (m n : ℕ) : Type 0 where
  on : ℕ → Bool
  tracks : (x : ℕ) → on x ≡ true → (j : ℕ) × ((j ≤ n) × Track source from P x j)
  many : sum_to m (λ x. one_for (on x)) ≡ suc n

covers : (source : ℕ) (from : ℕ → ℕ) (P : ℕ → Type 0) (m v n : ℕ) → ((x : ℕ) → P x → from x < m) → v < m → Track source from P v n → Covers source from P m n
covers source from P m v zero w l start = record {
  on = λ x. eqb x source;
  tracks = λ x e. (0, (omega arith, subst (λ (y : ℕ). Track source from P y 0) (is_source x e (cases_eq x source)) start));
  many = sum_spike m source (λ x. one_for (eqb x source)) l (λ x _ ne. ap one_for (ne_eqb x source ne)) ∙ ap one_for (eq-eqb source source refl);
}
  where
    is_source : (x : ℕ) → eqb x source ≡ true → ((x ≡ source) ⊎ (x ≢ source)) → source ≡ x
    is_source x e (inl z) = sym z
    is_source x e (inr z) = absurd (both_ways (eqb x source) (ne_eqb x source z) e)
covers source from P m v (suc n) w l (step v' n' ne p t) = more (covers source from P m (from v) n w (w v p) t)
  where
    more : Covers source from P m n → Covers source from P m (suc n)
    more c = record {
      on = on';
      tracks = tracks';
      many = omega (arith, sum_change m v (λ x. one_for (on' x)) (λ x. one_for (c.on x)) l (λ x _ z. ap one_for (cond-false (eqb x v) true (c.on x) (ne_eqb x v z))), ap one_for here, ap one_for before, c.many);
    }
      where
        on' : ℕ → Bool
        on' x = cond (eqb x v) true (c.on x)

        here : cond (eqb v v) true (c.on v) ≡ true
        here = cond-true (eqb v v) true (c.on v) (eq-eqb v v refl)

        before : c.on v ≡ false
        before = elim (cases_Bool (c.on v)) [
          | inl y ↦ (let k = c.tracks v y in absurd (omega (arith, k.1.0, same_length source from P P v k.0 (suc n) k.1.1 (step v n ne p t))))
          | inr y ↦ y
        ]

        tracks' : (x : ℕ) → cond (eqb x v) true (c.on x) ≡ true → (j : ℕ) × ((j ≤ suc n) × Track source from P x j)
        tracks' x e = elim (cases_eq x v) [
          | inl z ↦ (suc n, (omega arith, subst (λ (y : ℕ). Track source from P y (suc n)) (sym z) (step v n ne p t)))
          | inr z ↦ (let k = c.tracks x (sym (cond-false (eqb x v) true (c.on x) (ne_eqb x v z)) ∙ e) in (k.0, (omega (arith, k.1.0), k.1.1)))
        ]

pub short : (source : ℕ) (from : ℕ → ℕ) (P : ℕ → Type 0) (m v n : ℕ) → ((x : ℕ) → P x → from x < m) → v < m → Track source from P v n → n < m
short source from P m v n w l t =
    let c : Covers source from P m n = covers source from P m v n w l t in
    omega (arith, c.many, sum_at_most m 1 (λ x. one_for (c.on x)) (λ x _. one_at_most (c.on x)))

-- and so may the names of the steps
pub renamed : (source : ℕ) (from from' : ℕ → ℕ) (P Q : ℕ → Type 0) (v n : ℕ) → ((x : ℕ) → from' x ≡ from x) → ((x : ℕ) → P x → Q x) → Track source from P v n → Track source from' Q v n
renamed source from from' P Q v zero e f start = start
renamed source from from' P Q v (suc n) e f (step v' n' ne p t) =
    step v n ne (f v p) (subst (λ (x : ℕ). Track source from' Q x n) (sym (e v)) (renamed source from from' P Q (from v) n e f t))
