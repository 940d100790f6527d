-- A line of JSON.
use Rattle.std.specs.Prelude.{ℕ, List, [], ◌∷◌, ◌++◌}
use Rattle.serde_json.specs.Data.{Data}
use Rattle.serde_json.specs.Written.{compact_text}

-- with no space between what it is made of
abbrev pub json_line : Data → List ℕ
json_line d = compact_text d ++ (10 ∷ [])
