-- Rows of numbers, word by word.
use Rattle.std.proofs.Common.{◌≡◌, ℕ, List, [], ◌∷◌, ◌++◌, Ok, Err, Result, sym, refl, ap, ◌∙◌}
use Rattle.text_words.specs.Numeral.{capped, largest_entry}
use Rattle.text_lines.specs.declared.flaw.Flaw.{Flaw}
use Rattle.text_lines.specs.Flaw.{number_of, and_then}
use Rattle.text.specs.Section.{row_onto}

abbrev after : List ℕ → List (List ℕ) → Result ℕ Flaw → Result (List ℕ) Flaw
after ns ws r = and_then (λ n. row_onto (ns ++ (capped largest_entry n ∷ [])) ws) r

onto_nil : (ns : List ℕ) → row_onto ns [] ≡ Ok ns
unfolding row_onto
onto_nil ns = refl

onto_word : (ns : List ℕ) (w : List ℕ) (ws : List (List ℕ)) → row_onto ns (w ∷ ws) ≡ after ns ws (number_of w)
unfolding row_onto
onto_word ns w ws = refl

pub row_ends : (ns : List ℕ) (ws : List (List ℕ)) (r : Result (List ℕ) Flaw) → ws ≡ [] → row_onto ns ws ≡ r → r ≡ Ok ns
row_ends ns ws r e h = sym h ∙ ap (row_onto ns) e ∙ onto_nil ns

pub row_stops : (ns : List ℕ) (ws vs : List (List ℕ)) (w : List ℕ) (why : Flaw) (r : Result (List ℕ) Flaw) → ws ≡ w ∷ vs → number_of w ≡ Err why → row_onto ns ws ≡ r → r ≡ Err why
row_stops ns ws vs w why r e q h = sym h ∙ ap (row_onto ns) e ∙ onto_word ns w vs ∙ ap (after ns vs) q

pub row_more : (ns ms : List ℕ) (ws vs : List (List ℕ)) (w : List ℕ) (n : ℕ) → ws ≡ w ∷ vs → number_of w ≡ Ok n → ms ≡ ns ++ (capped largest_entry n ∷ []) → row_onto ms vs ≡ row_onto ns ws
row_more ns ms ws vs w n e q t =
    ap (λ (x : List ℕ). row_onto x vs) t ∙ sym (ap (after ns vs) q) ∙ sym (onto_word ns w vs) ∙ ap (row_onto ns) (sym e)
