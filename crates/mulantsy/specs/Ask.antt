-- What is asked for.
use Rattle.std.specs.Prelude.{ℕ, Bool, if◌then◌else◌, List, codes}
use Rattle.std.specs.Str.{bytes_eq}
use Rattle.report.specs.declared.Form.{Form}
use Rattle.report.specs.declared.Form.TheVariants.{Rows, Picture, Json, Csv}
use Rattle.report.specs.declared.View.{View}
use Rattle.report.specs.declared.View.TheVariants.{Heights, Rings}

abbrev pub form_of : List ℕ → Form
form_of name = if bytes_eq name (codes "json") then Json else (if bytes_eq name (codes "csv") then Csv else Rows)

-- a picture of what was seen, or of the heights, or the heights in this form
abbrev pub view_of : (rings picture : Bool) → (format : List ℕ) → View
view_of rings picture format = if rings then Rings else (if picture then Heights Picture else Heights (form_of format))
