use Rattle.std.proofs.Common.{◌≡◌, ◌≤◌, drop}
use Rattle.std.specs.Option.{option_map}
use Rattle.text_words.specs.Numeral.{numeral_on, capped}
use Rattle.text_words.proofs.numeral.numeral_of.Given as goal

abbrev pub invariant-loop-b : goal.invariant-loop-b
invariant-loop-b l = (option_map (capped 18446744073709551615) (numeral_on l.n (drop l.b-index l.word)) ≡ option_map (capped 18446744073709551615) (numeral_on 0 l.word)) × (l.n ≤ 18446744073709551615)
