-- A signed number as a script writes it.
use Rattle.std.specs.Prelude.{Bool, cond, ◌&&◌, List, ℕ, ℤ, Option, Some, None}
use Rattle.rounding.specs.Whole.{signed_of, is_i32}
use Rattle.numerals.specs.Digits.{is_numeral, numeral_value}
use Rattle.numerals.specs.Words.{has_minus, unsigned}

-- one or more decimal digits, of an integer from -2,147,483,648 to 2,147,483,647, negative where the flag is true
unfoldable pub signed_as : Bool → List ℕ → Option ℤ
signed_as s w = cond (is_numeral 10 w && is_i32 (signed_of s (numeral_value 10 w))) (Some (signed_of s (numeral_value 10 w))) None

-- the same with or without a '-' in front
abbrev pub signed_in : List ℕ → Option ℤ
signed_in w = signed_as (has_minus w) (unsigned w)
