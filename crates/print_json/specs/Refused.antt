-- Why there is no answer, as JSON.
use Rattle.std.specs.Prelude.{ℕ, List, codes, Some, None, Option}
use Rattle.serde_json.specs.Data.{Data, number, unsigned, string, object, member, no_members}
use Rattle.print_json.specs.declared.refused.Position.{Position}
use Rattle.print_json.specs.declared.refused.Refused.{Refused}

abbrev pub reason_data : (number place : ℕ) → (reason : List ℕ) → Data
reason_data n p why =
    object (member (codes "refused") (object
    (member (codes "number") (number (unsigned n))
    (member (codes "place") (number (unsigned p))
    (member (codes "reason") (string why) no_members)))) no_members)

abbrev pub stood_data : (number place : ℕ) → (reason : List ℕ) → Position → Data
stood_data n p why at =
    object (member (codes "refused") (object
    (member (codes "column") (number (unsigned at.column))
    (member (codes "line") (number (unsigned at.line))
    (member (codes "number") (number (unsigned n))
    (member (codes "place") (number (unsigned p))
    (member (codes "reason") (string why) no_members)))))) no_members)

abbrev pub data_by : Refused → Option Position → Data
data_by r None = reason_data r.number r.place r.reason.now
data_by r (Some at) = stood_data r.number r.place r.reason.now at

abbrev pub refused_data : Refused → Data
refused_data r = data_by r r.position
