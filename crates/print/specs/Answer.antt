-- What is printed of a field that was worked on.
use Rattle.std.specs.Prelude.{ℕ, Bool, true, false, List, [], ◌++◌, ℤ}
use Rattle.phase_field.specs.Field.{Field}
use Rattle.print.specs.declared.rows.Parting.TheVariants.{Space}
use Rattle.print.specs.Rows.{rows_text, cost_text}
use Rattle.print.specs.Signs.{signs_text}

abbrev pub where_asked : Bool → List ℕ → List ℕ
where_asked true t = t
where_asked false t = []

-- the heights row by row, the cost, and the signs where the squares are asked for
abbrev pub answer_text : Field → List ℤ → ℕ → Bool → List ℕ
answer_text f zs n squares = (rows_text Space f.wide f.high zs ++ cost_text n) ++ where_asked squares (signs_text f)
