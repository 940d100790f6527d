-- Where it went wrong, and how a refusal is said.
use Rattle.std.specs.Prelude.{ℕ, List, ◌++◌, codes, decimal}
use Rattle.phase_input.specs.Input.{number}
use Rattle.phase_input.specs.declared.refusal.Dimension.{Dimension}
use Rattle.phase_input.specs.declared.refusal.Dimension.TheVariants.{Wide, High, Turn}
use Rattle.phase_input.specs.declared.refusal.Refusal.{Refusal}
use Rattle.phase_input.specs.declared.refusal.Refusal.TheVariants.{Size, Seen, Price, Room, Text}

abbrev pub which : Dimension → ℕ
which Wide = 0
which High = 1
which Turn = 2

-- Places count from 0; prices down come after those to the right. Of a size it is which of the three isn't right, of a room its
-- length, of a text its line.
abbrev pub place : Refusal → ℕ
place (Size d) = which d
place (Seen p) = p
place (Price p) = p
place (Room n) = n
place (Text l) = l

-- the reason in a few words
abbrev pub size_text : Dimension → List ℕ
size_text Wide = codes "a field that isn't 1 to 64 wide"
size_text High = codes "a field that isn't 1 to 64 high"
size_text Turn = codes "a turn that isn't 2 to 65,536"

abbrev pub reason_text : Refusal → List ℕ
reason_text (Size d) = size_text d
reason_text (Seen p) = codes "a number that is a turn or more"
reason_text (Price p) = codes "a price that is above 1,000 or lacks"
reason_text (Room n) = codes "a room that isn't a number for each place"
reason_text (Text l) = codes "a line that can't be read"

abbrev pub line_text : ℕ → ℕ → List ℕ → List ℕ
line_text n p words = codes "refused " ++ (decimal n ++ (codes " at " ++ (decimal p ++ (codes ": " ++ words))))

-- as `refused 2 at 5: a number that is a turn or more`
abbrev pub refusal_text : Refusal → List ℕ
refusal_text r = line_text (number r) (place r) (reason_text r)
