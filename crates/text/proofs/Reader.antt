-- Documents, line by line.
use Rattle.std.proofs.Common.{◌≡◌, ℕ, suc, ◌+◌, List, [], ◌∷◌, Ok, Err, Result, MatchResult, IsErrAnd, sym, refl, ap, ◌∙◌, subst, add-one}
use Rattle.text_lines.specs.declared.flaw.Flaw.{Flaw}
use Rattle.text_lines.specs.declared.flaw.Fault.{Fault}
use Rattle.text_lines.specs.declared.flaw.Fault.TheVariants.{Flawed, Memory}
use Rattle.text.specs.declared.draft.Draft.{Draft}
use Rattle.text.specs.declared.document.Unread.{Unread}
use Rattle.text.specs.Draft.{Notes, notes, step, Drafted}
use Rattle.text.specs.Section.{leaving}
use Rattle.text.specs.Document.{Contents, Unreadable, finished, or_line, read_from, stopped_at, Reads}

abbrev Read : Type 0
Read = Result Contents Unreadable

abbrev after : ℕ → List (List ℕ) → Result Notes Flaw → Read
after n ls r = or_line r n (λ e. read_from (suc n) e ls)

from_nil : (n : ℕ) (d : Notes) → read_from n d [] ≡ Ok (finished d)
unfolding read_from
from_nil n d = refl

from_line : (n : ℕ) (d : Notes) (l : List ℕ) (ls : List (List ℕ)) → read_from n d (l ∷ ls) ≡ after n ls (step d l)
unfolding read_from
from_line n d l ls = refl

pub read_ends : (n : ℕ) (d : Notes) (ls : List (List ℕ)) (r : Read) (c : Contents) → ls ≡ [] → read_from n d ls ≡ r → c ≡ finished d → r ≡ Ok c
read_ends n d ls r c e h q = sym h ∙ ap (read_from n d) e ∙ from_nil n d ∙ ap (λ (x : Contents). Ok x) (sym q)

read_stops : (n : ℕ) (d : Notes) (ls ms : List (List ℕ)) (l : List ℕ) (r : Read) (f : Fault) → ls ≡ l ∷ ms → Drafted (step d l) (Err f) → read_from n d ls ≡ r → Reads r (Err (stopped_at f n))
read_stops n d ls ms l r (Flawed why) e q h = sym h ∙ ap (read_from n d) e ∙ from_line n d l ms ∙ ap (after n ms) q
read_stops n d ls ms l r Memory e q h = tt

read_more : (n : ℕ) (d : Notes) (ls ms : List (List ℕ)) (l : List ℕ) (next : Draft) → ls ≡ l ∷ ms → Drafted (step d l) (Ok next) → read_from (n + 1) (notes next) ms ≡ read_from n d ls
read_more n d ls ms l next e q =
    ap (λ (k : ℕ). read_from k (notes next) ms) (add-one n) ∙ ap (after n ms) (sym q) ∙ sym (from_line n d l ms) ∙ ap (read_from n d) (sym e)

-- ---- what a draft is after a line, or a fault, of which the line is told

pub told_stops : {A : Type 0} (n : ℕ) (d : Notes) (ls ms : List (List ℕ)) (l : List ℕ) (r : Read) (now : Draft) (made : Result A Fault) (told : Result A Unread) (u : Unread) → ls ≡ l ∷ ms
    → Drafted (step d l) (leaving now made) → MatchResult made (λ x. told ≡ Ok x) (λ f. IsErrAnd told (λ why. why ≡ stopped_at f n)) → told ≡ Err u → read_from n d ls ≡ r → Reads r (Err u)
told_stops n d ls ms l r now (Ok x) told u e q m p h = absurd (not_both (sym m ∙ p))
  where
    not_both : {A : Type 0} {x : A} {u : Unread} → Ok x ≡ Err u → ⊥
    not_both {A} s = subst (λ (y : Result A Unread). MatchResult y (λ x. Unit {0}) (λ u. ⊥)) s tt
told_stops {A} n d ls ms l r now (Err f) told u e q m p h =
    rw (subst (λ (y : Result A Unread). IsErrAnd y (λ why. why ≡ stopped_at f n)) p m) (read_stops n d ls ms l r f e q h)

told_next : {A : Type 0} (r : Result Notes Flaw) (now : Draft) (made : Result A Fault) (told : Result A Unread) (a : A) (P : Fault → Unread → Type 0) → Drafted r (leaving now made)
    → MatchResult made (λ x. told ≡ Ok x) (λ f. IsErrAnd told (P f)) → told ≡ Ok a → Drafted r (Ok now)
told_next r now (Ok x) told a P q m p = q
told_next {A} r now (Err f) told a P q m p = absurd (subst (λ (y : Result A Unread). IsErrAnd y (P f)) p m)

pub told_more : {A : Type 0} (n : ℕ) (d : Notes) (ls ms : List (List ℕ)) (l : List ℕ) (now : Draft) (made : Result A Fault) (told : Result A Unread) (a : A) → ls ≡ l ∷ ms
    → Drafted (step d l) (leaving now made) → MatchResult made (λ x. told ≡ Ok x) (λ f. IsErrAnd told (λ why. why ≡ stopped_at f n)) → told ≡ Ok a
    → read_from (n + 1) (notes now) ms ≡ read_from n d ls
told_more n d ls ms l now made told a e q m p = read_more n d ls ms l now e (told_next (step d l) now made told a (λ f why. why ≡ stopped_at f n) q m p)
