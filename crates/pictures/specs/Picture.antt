-- Plain pictures of grey.
use Rattle.std.specs.Prelude.{ℕ, ◌*◌, ◌/◌, ◌<◌, ◌≤◌, if◌then◌else◌, List, ◌++◌, map, length, ℤ, pos, ◌-ℤ◌, ◌≤ℤ◌, codes, decimal, fold, ◌==◌, nat_le, slice_index_or, unsigned_abs}
use Rattle.std.specs.Int.{int_min, int_max}
use Rattle.print.specs.declared.rows.Parting.TheVariants.{Space}
use Rattle.print.specs.Rows.{rows_text}

-- so much of a span, of 255
abbrev pub scaled : ℕ → ℕ → ℕ
scaled part span = if span == 0 then 0 else (if nat_le span part then 255 else part * 255 / span)

-- black for the least, white for the greatest
unfoldable pub shade : ℤ → ℤ → ℤ → ℕ
shade low high z = scaled (unsigned_abs (z -ℤ low)) (unsigned_abs (high -ℤ low))

abbrev pub least : List ℤ → ℤ
least zs = fold int_min (slice_index_or zs 0 (pos 0)) zs

abbrev pub greatest : List ℤ → ℤ
greatest zs = fold int_max (slice_index_or zs 0 (pos 0)) zs

abbrev pub shades : ℤ → ℤ → List ℤ → List ℤ
shades low high zs = map (λ z. pos (shade low high z)) zs

abbrev pub head_text : ℕ → ℕ → List ℕ
head_text wide high = codes "P2\n" ++ (decimal wide ++ (codes " " ++ (decimal high ++ codes "\n255\n")))

-- a plain PGM picture
abbrev pub picture_text : ℕ → ℕ → List ℤ → List ℕ
picture_text wide high zs = head_text wide high ++ rows_text Space wide high (shades (least zs) (greatest zs) zs)

-- shades are 255 at most, and what is higher is never darker
abbrev pub NeverDarker : Type 0
NeverDarker =
    (zs : List ℤ) (i j : ℕ) → i < length zs → j < length zs → slice_index_or zs i (pos 0) ≤ℤ slice_index_or zs j (pos 0) →
    (shade (least zs) (greatest zs) (slice_index_or zs i (pos 0)) ≤ shade (least zs) (greatest zs) (slice_index_or zs j (pos 0)))
    × (shade (least zs) (greatest zs) (slice_index_or zs j (pos 0)) ≤ 255)
