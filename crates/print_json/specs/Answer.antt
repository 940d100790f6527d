-- What is said of a field with its turns put back, as JSON.
use Rattle.std.specs.Prelude.{ℕ, zero, suc, pred, Bool, if◌then◌else◌, List, [], ◌∷◌, ℤ, codes}
use Rattle.phase_field.specs.Field.{Field}
use Rattle.serde_json.specs.Data.{Data, number, unsigned, string, array, object, member, no_members}
use Rattle.serde_json.specs.View.{items_of}
use Rattle.print.specs.Signs.{sign_row}
use Rattle.print_json.specs.Rows.{rows_data}

-- the signs of so many rows of squares, from row y on, a text for each
unfoldable pub sign_list : Field → ℕ → ℕ → List Data
sign_list f y zero = []
sign_list f y (suc n) = string (sign_row f y 0 (pred f.wide)) ∷ sign_list f (suc y) n

abbrev pub signs_data : Field → Data
signs_data f = array (items_of (sign_list f 0 (pred f.high)))

abbrev pub plain_data : Field → (heights : Data) → (cost : ℕ) → Data
plain_data f heights cost =
    object (member (codes "command") (string (codes "unwrap"))
    (member (codes "cost") (number (unsigned cost))
    (member (codes "heights") heights
    (member (codes "high") (number (unsigned f.high))
    (member (codes "turn") (number (unsigned f.turn))
    (member (codes "wide") (number (unsigned f.wide)) no_members))))))

abbrev pub squares_data : Field → (heights : Data) → (cost : ℕ) → Data
squares_data f heights cost =
    object (member (codes "command") (string (codes "unwrap"))
    (member (codes "cost") (number (unsigned cost))
    (member (codes "heights") heights
    (member (codes "high") (number (unsigned f.high))
    (member (codes "squares") (signs_data f)
    (member (codes "turn") (number (unsigned f.turn))
    (member (codes "wide") (number (unsigned f.wide)) no_members)))))))

-- the heights row by row, the cost, and the signs where the squares are asked for
abbrev pub answer_data : Field → (heights : List ℤ) → (cost : ℕ) → (squares : Bool) → Data
answer_data f zs cost squares = if squares then squares_data f (rows_data f.wide f.high zs) cost else plain_data f (rows_data f.wide f.high zs) cost
