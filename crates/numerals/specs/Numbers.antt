-- A number, of 32 bits or of 64, and the clicks of a knob, as a script writes them.
use Rattle.std.specs.Prelude.{ℕ, ◌-◌, ◌%◌, Bool, cond, ◌&&◌, List, nat_le, Option, Some, None}
use Rattle.std.specs.Option.{option_map}
use Rattle.numerals.specs.Digits.{is_numeral, numeral_value}
use Rattle.numerals.specs.Words.{has_minus, unsigned}

-- one or more decimal digits and nothing else, of a number of at most `most`; zeros may stand in front
abbrev pub is_number : ℕ → List ℕ → Bool
is_number most w = is_numeral 10 w && nat_le (numeral_value 10 w) most

-- the number of such a word, where `most` has 32 bits or 64
unfoldable pub number_in : ℕ → List ℕ → Option ℕ
number_in most w = cond (is_number most w) (Some (numeral_value 10 w)) None

-- n clicks back, modulo 256
abbrev pub clicks_back : ℕ → ℕ
clicks_back n = (256 - n % 256) % 256

-- clicks from -128 to 127, modulo 256: what they add to a count
unfoldable pub clicks_in : List ℕ → Option ℕ
clicks_in w = cond (has_minus w) (option_map clicks_back (number_in 128 (unsigned w))) (number_in 127 (unsigned w))
