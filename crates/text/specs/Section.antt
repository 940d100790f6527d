-- Rows that stand together.
use Rattle.std.specs.Prelude.{◌≡◌, ℕ, ◌-◌, if◌then◌else◌, ◌||◌, List, [], ◌∷◌, ◌++◌, length, Some, None, Ok, Err, vec_items, Result, ◌==◌}
use Rattle.text_words.specs.Numeral.{capped, largest_entry}
use Rattle.text_lines.specs.declared.flaw.Flaw.{Flaw}
use Rattle.text_lines.specs.declared.flaw.Flaw.TheVariants.{SecondPrice, Width}
use Rattle.text_lines.specs.declared.flaw.Fault.{Fault}
use Rattle.text.specs.declared.section.Content.{Content}
use Rattle.text.specs.declared.section.Content.TheVariants.{Picture}
use Rattle.text.specs.declared.section.Section.{Section}
use Rattle.text_lines.specs.Flaw.{number_of, and_then, Stops}

-- what the rows are, how wide they are (0 before the first), and their numbers row by row
pub record Block : Type 0 where
  pub content : Content
  pub wide : ℕ
  pub numbers : List ℕ

abbrev pub block : Section → Block
block s = record { content = s.content; wide = s.wide; numbers = vec_items s.numbers }

abbrev pub empty_picture : Block
empty_picture = record { content = Picture None; wide = 0; numbers = [] }

-- the numbers so far, and after them those that words write; or why a word is no number
unfoldable pub row_onto : List ℕ → List (List ℕ) → Result (List ℕ) Flaw
row_onto ns [] = Ok ns
row_onto ns (w ∷ ws) = and_then (λ n. row_onto (ns ++ (capped largest_entry n ∷ [])) ws) (number_of w)

-- the first row says how wide rows are
abbrev pub as_wide : Block → ℕ → List ℕ → Result Block Flaw
as_wide b w all = if b.wide == 0 || w == b.wide then Ok (record b { wide = w; numbers = all }) else Err Width

-- one row more
abbrev pub with_row : Block → List (List ℕ) → Result Block Flaw
with_row b ws = and_then (λ all. as_wide b (length all - length b.numbers) all) (row_onto b.numbers ws)

abbrev pub with_price_by : Block → ℕ → Content → Result Block Flaw
with_price_by b p (Picture None) = Ok (record b { content = Picture (Some p) })
with_price_by b p (Picture (Some q)) = Err SecondPrice

-- one price for all steps
abbrev pub with_price : Block → ℕ → Result Block Flaw
with_price b p = with_price_by b p b.content

-- what a call left, where it went well
abbrev pub leaving : {A B E : Type 0} → B → Result A E → Result B E
leaving b (Ok a) = Ok b
leaving b (Err e) = Err e

-- the section is that block, or it can't be read, unless there is no memory for it
abbrev pub HasRow : Result Block Flaw → Result Section Fault → Type 0
HasRow r (Ok s) = r ≡ Ok (block s)
HasRow r (Err f) = Stops r f
