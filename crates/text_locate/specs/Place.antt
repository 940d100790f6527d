-- Lines and columns.
use Rattle.std.specs.Prelude.{ℕ, false, List, Option}
use Rattle.std.specs.List.{slice_get}
use Rattle.std.specs.Option.{option_map, option_and_then}
use Rattle.text_locate.specs.Column.{starts}
use Rattle.text_locate.specs.declared.place.Place.{Place}
use Rattle.text_locate.specs.Word.{line_of}
use Rattle.text_locate.specs.declared.word.WordAt.{WordAt}

-- the column at which a word of a line begins, in the line of that number
abbrev pub column_in : List ℕ → WordAt → Option ℕ
column_in text at = option_and_then (λ l. slice_get (starts 0 false l) at.word) (line_of text at.line)

abbrev pub place_of : List ℕ → WordAt → Option Place
place_of text at = option_map (λ c. record { line = at.line; column = c }) (column_in text at)
