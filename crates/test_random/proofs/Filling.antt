-- Six numbers that are drawn one after another.
use Rattle.std.proofs.Common.{◌≡◌, ℕ, ◌+◌, ◌<◌, List, length, get_or, set, sym, ◌∙◌, subst, ⊎_elim, arith, length-set, get_or-set_other, get_or-set_same}
use Rattle.std.proofs.lemmas.Bool.{cases_eq}

pub one_drawn : (P : ℕ → Type 0) (xs : List ℕ) (i v : ℕ) → length xs ≡ 6 → i < 6 → ((k : ℕ) → k < i → P (get_or xs k 0)) → P v →
    (length (set xs i v) ≡ 6) × ((k : ℕ) → k < i + 1 → P (get_or (set xs i v) k 0))
one_drawn P xs i v l b h p = (length-set xs i v ∙ l, at)
  where
    at : (k : ℕ) → k < i + 1 → P (get_or (set xs i v) k 0)
    at k m =
        ⊎_elim (λ e. subst (λ (j : ℕ). P (get_or (set xs i v) j 0)) (sym e) (subst P (sym (get_or-set_same xs i v 0 (omega arith))) p)) (λ e. subst P (sym (get_or-set_other xs i k v 0 e)) (h k (omega arith))) (cases_eq k i)
