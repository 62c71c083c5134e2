-- What only the private functions promise: the code's own steps, digit by digit. proofs/Numerals and Decimals show that they come to what is promised.
use Rattle.std.specs.Prelude.{ℕ, ◌+◌, ◌*◌, ◌^◌, Bool, false, cond, ◌&&◌, List, [], ◌∷◌, length, nat_le, nat_lt, Float, Option, Some, None}
use Rattle.std.specs.Option.{option_and_then, option_map}
use Rattle.std.specs.Float.{binary64}
use Rattle.std.specs.Float.Ieee.{round}
use Rattle.numerals.specs.Digits.{digit_of}
use Rattle.numerals.specs.Numbers.{number_in}
use Rattle.numerals.specs.declared.Base.{Base}

-- a base's number
abbrev pub base_number : Base → ℕ
base_number Base.Ten = 10
base_number Base.Sixteen = 16

-- the digit of a base that a byte is
abbrev pub digit_in : ℕ → ℕ → Option ℕ
digit_in base b = cond (nat_lt (digit_of b) base) (Some (digit_of b)) None

-- the number x, where t holds and it is at most `most`
abbrev pub at_most : ℕ → Bool → ℕ → Option ℕ
at_most most t x = cond (t && nat_le x most) (Some x) None

-- v with the digit b behind it
abbrev pub step : ℕ → ℕ → ℕ → ℕ → Option ℕ
step base most v b = at_most most (nat_lt (digit_of b) base) (v * base + digit_of b)

-- v with the digits w behind it, one after the other
unfoldable pub read_on : ℕ → ℕ → ℕ → List ℕ → Option ℕ
read_on base most v [] = Some v
read_on base most v (b ∷ w) = option_and_then (λ n. read_on base most n w) (step base most v b)

-- the float nearest to the number that digits are, divided by 10 to the power k
abbrev pub quotient_of : Option ℕ → ℕ → Option Float
quotient_of d k = option_map (λ n. round binary64 false n (10 ^ k)) d

-- a decimal without a point
abbrev pub whole_decimal : List ℕ → Option Float
whole_decimal w = quotient_of (number_in 999999999999999 w) 0

-- the number n with the digits w behind its point, from 1 to 15 of them
unfoldable pub fraction_of : ℕ → List ℕ → Option Float
fraction_of n w = cond (nat_le 1 (length w) && nat_le (length w) 15) (quotient_of (read_on 10 999999999999999 n w) (length w)) None

-- a decimal with w before its point and v behind it
abbrev pub pointed_of : List ℕ → List ℕ → Option Float
pointed_of w v = option_and_then (λ n. fraction_of n v) (number_in 999999999999999 w)
