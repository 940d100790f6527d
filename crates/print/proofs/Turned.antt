-- Heights, place by place.
use Rattle.std.proofs.Common.{◌≡◌, ◌⊎◌, inl, inr, ℕ, List, [], ◌∷◌, ◌++◌, ℤ, pos, ◌+ℤ◌, ◌*ℤ◌, sym, refl, ap, ◌∙◌, append_assoc, append-nil}
use Rattle.std.specs.Int.{saturate_to_bits}
use Rattle.print.specs.Heights.{heights_of}

heights_nil : (t : ℕ) (ss : List ℕ) (ks : List ℤ) → ss ≡ [] → heights_of t ss ks ≡ []
unfolding heights_of
heights_nil t ss ks e = ap (λ (x : List ℕ). heights_of t x ks) e

heights_end : (t : ℕ) (ss : List ℕ) → heights_of t ss [] ≡ []
unfolding heights_of
heights_end t [] = refl
heights_end t (s ∷ ss) = refl

heights_cons : (t s : ℕ) (k : ℤ) (ss : List ℕ) (ks : List ℤ) → heights_of t (s ∷ ss) (k ∷ ks) ≡ saturate_to_bits 63 (pos s +ℤ (k *ℤ pos t)) ∷ heights_of t ss ks
unfolding heights_of
heights_cons t s k ss ks = refl

pub heights_stop : (t : ℕ) (ss : List ℕ) (ks b e : List ℤ) → (ss ≡ []) ⊎ (ks ≡ []) → b ++ heights_of t ss ks ≡ e → b ≡ e
heights_stop t ss ks b e (inl p) h = sym (append-nil b) ∙ ap (λ (x : List ℤ). b ++ x) (sym (heights_nil t ss ks p)) ∙ h
heights_stop t ss ks b e (inr p) h = sym (append-nil b) ∙ ap (λ (x : List ℤ). b ++ x) (sym (ap (heights_of t ss) p ∙ heights_end t ss)) ∙ h

pub heights_step : (t s : ℕ) (k z : ℤ) (ss vs : List ℕ) (ks ls b after e : List ℤ) → ss ≡ s ∷ vs → ks ≡ k ∷ ls → z ≡ saturate_to_bits 63 (pos s +ℤ (k *ℤ pos t)) → after ≡ b ++ (z ∷ []) → b ++ heights_of t ss ks ≡ e → after ++ heights_of t vs ls ≡ e
heights_step t s k z ss vs ks ls b after e p q v r h =
    let u = heights_of t vs ls in
    ap (λ (x : List ℤ). x ++ u) r ∙ append_assoc b (z ∷ []) u
    ∙ ap (λ (x : List ℤ). b ++ x)
    (ap (λ (x : ℤ). x ∷ u) v ∙ sym (heights_cons t s k vs ls) ∙ ap (λ (x : List ℕ). heights_of t x (k ∷ ls)) (sym p) ∙ ap (heights_of t ss) (sym q))
    ∙ h
