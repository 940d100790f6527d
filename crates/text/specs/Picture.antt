-- The picture that a text begins with.
use Rattle.std.specs.Prelude.{ℕ, ◌+◌, ◌*◌, ◌/◌, if◌then◌else◌, List, [], ◌∷◌, length, take, drop, replicate, Some, None, vec_items, ◌==◌}
use Rattle.text.specs.declared.picture.Picture.{Picture}
use Rattle.text.specs.declared.section.Content.{Content}
use Rattle.text.specs.declared.section.Content.TheVariants as content
use Rattle.text.specs.Document.{Contents}
use Rattle.text.specs.Section.{Block, empty_picture}

pub record Shown : Type 0 where
  pub wide : ℕ
  pub high : ℕ
  pub seen : List ℕ
  pub right : List ℕ
  pub below : List ℕ

abbrev pub shown : Picture → Shown
shown p = record { wide = p.wide; high = p.high; seen = vec_items p.seen; right = vec_items p.right; below = vec_items p.below }

-- how many rows so many numbers are
abbrev pub rows_in : ℕ → ℕ → ℕ
rows_in n w = if w == 0 then 0 else n / w

-- one price for all steps
abbrev pub at_price : Block → ℕ → Shown
at_price b p = record {
  wide = b.wide;
  high = rows_in (length b.numbers) b.wide;
  seen = b.numbers;
  right = replicate (length b.numbers) p;
  below = replicate (length b.numbers) p;
}

-- a third of the rows each, from the top: what was seen, the prices to the right and those down
abbrev pub cut_at : Block → ℕ → Shown
cut_at b h = record {
  wide = b.wide;
  high = h;
  seen = take (h * b.wide) b.numbers;
  right = take (h * b.wide) (drop (h * b.wide) b.numbers);
  below = drop (h * b.wide) (drop (h * b.wide) b.numbers);
}

-- where the count of rows is no multiple of three, prices lack
abbrev pub in_thirds : Block → Shown
in_thirds b = cut_at b ((rows_in (length b.numbers) b.wide + 2) / 3)

abbrev pub picture_by : Block → Content → Shown
picture_by b (content.Picture (Some p)) = at_price b p
picture_by b (content.Picture None) = in_thirds b

abbrev pub picture_of : Block → Shown
picture_of b = picture_by b b.content

abbrev pub first_of : List Block → Block
first_of [] = empty_picture
first_of (b ∷ bs) = b

-- the picture of the first section
abbrev pub first_picture : Contents → Shown
first_picture c = picture_of (first_of c.sections)
