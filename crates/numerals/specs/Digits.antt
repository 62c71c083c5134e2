-- Digits and the numbers that they stand for, in base 10 and in base 16. A byte is its ASCII code: 48 is '0', 65 'A', 97 'a'.
use Rattle.std.specs.Prelude.{ℕ, ◌+◌, ◌-◌, ◌*◌, ◌^◌, Bool, true, false, cond, ◌&&◌, List, [], ◌∷◌, length, nat_le, nat_lt}

-- what a byte counts as a digit, of either case, and 16 where it is none
abbrev pub digit_of : ℕ → ℕ
digit_of b =
    cond (nat_le 48 b && nat_le b 57) (b - 48)
    (cond (nat_le 65 b && nat_le b 70) (b - 55)
    (cond (nat_le 97 b && nat_le b 102) (b - 87)
    16))

-- every byte is a digit of the base
unfoldable pub all_digits : ℕ → List ℕ → Bool
all_digits base [] = true
all_digits base (b ∷ w) = nat_lt (digit_of b) base && all_digits base w

-- the number that digits stand for: a digit with n digits behind it counts base ^ n times
unfoldable pub numeral_value : ℕ → List ℕ → ℕ
numeral_value base [] = 0
numeral_value base (b ∷ w) = digit_of b * base ^ length w + numeral_value base w

-- one or more digits, and nothing else
unfoldable pub is_numeral : ℕ → List ℕ → Bool
is_numeral base [] = false
is_numeral base (b ∷ w) = all_digits base (b ∷ w)
