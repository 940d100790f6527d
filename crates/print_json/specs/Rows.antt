-- Rows of numbers as JSON.
use Rattle.std.specs.Prelude.{ℕ, zero, suc, List, [], ◌∷◌, map, take, drop, ℤ}
use Rattle.serde_json.specs.Data.{Data, number, array}
use Rattle.serde_json.specs.Find.{of_integer}
use Rattle.serde_json.specs.View.{items_of}

abbrev pub number_data : ℤ → Data
number_data z = number (of_integer z)

-- an array of numbers
abbrev pub row_data : List ℤ → Data
row_data zs = array (items_of (map number_data zs))

-- so many rows
unfoldable pub row_list : ℕ → ℕ → List ℤ → List Data
row_list wide zero zs = []
row_list wide (suc high) zs = row_data (take wide zs) ∷ row_list wide high (drop wide zs)

-- an array of rows
abbrev pub rows_data : ℕ → ℕ → List ℤ → Data
rows_data wide high zs = array (items_of (row_list wide high zs))
