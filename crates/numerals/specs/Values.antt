-- A float as a script writes it: its name, its bit pattern or a decimal. A byte is its ASCII code: 46 is '.', 48 '0', 120 'x'.
use Rattle.std.specs.Prelude.{ℕ, suc, ◌^◌, Bool, true, false, cond, not, ◌&&◌, ◌||◌, List, [], ◌∷◌, ◌++◌, length, take, drop, ◌==◌, from_bits, nat_le, nat_lt, Float, Option, Some, None}
use Rattle.std.specs.Option.{option_or}
use Rattle.std.specs.Float.{nan, inf, binary64}
use Rattle.std.specs.Float.Ieee.{round}
use Rattle.numerals.specs.Digits.{all_digits, is_numeral, numeral_value}
use Rattle.words.specs.Words.{place_of, up_to, same_bytes}
use Rattle.numerals.specs.Words.{has_minus, unsigned}

-- ---- the names `nan`, `inf` and `-inf`

abbrev pub name_of : List ℕ → Option Float
name_of w =
    cond (same_bytes w (110 ∷ 97 ∷ 110 ∷ [])) (Some nan)
    (cond (same_bytes w (105 ∷ 110 ∷ 102 ∷ [])) (Some (inf false))
    (cond (same_bytes w (45 ∷ 105 ∷ 110 ∷ 102 ∷ [])) (Some (inf true))
    None))

-- ---- a bit pattern: 16 digits of base 16 behind '0x'

abbrev pub is_pattern : List ℕ → Bool
is_pattern w = same_bytes (take 2 w) (48 ∷ 120 ∷ []) && (length (drop 2 w) == 16 && all_digits 16 (drop 2 w))

unfoldable pub pattern_of : List ℕ → Option Float
pattern_of w = cond (is_pattern w) (Some (from_bits binary64 (numeral_value 16 (drop 2 w)))) None

-- ---- a decimal: what stands before the first point and behind it

abbrev pub has_point : List ℕ → Bool
has_point w = nat_lt (place_of 46 w) (length w)

abbrev pub before : List ℕ → List ℕ
before w = up_to 46 w

abbrev pub behind : List ℕ → List ℕ
behind w = drop (suc (place_of 46 w)) w

-- One or more digits, and where there is a point one or more digits behind it.
-- At most 15 stand behind the point, and all together are a number below 10 ^ 15, which has at most 15 digits from the first on that is not 0.
abbrev pub is_decimal : List ℕ → Bool
is_decimal w =
    is_numeral 10 (before w)
    && ((not (has_point w) || is_numeral 10 (behind w))
    && (nat_le (length (behind w)) 15
    && nat_lt (numeral_value 10 (before w ++ behind w)) (10 ^ 15)))

-- The float nearest to the number of all digits divided by 10 for each digit behind the point. `decimal_nearest` of specs/Laws.antt: of all floats none is nearer.
unfoldable pub decimal_as : Bool → List ℕ → Option Float
decimal_as s w = cond (is_decimal w) (Some (round binary64 s (numeral_value 10 (before w ++ behind w)) (10 ^ length (behind w)))) None

-- ---- the first of these that is one

abbrev pub value_in : List ℕ → Option Float
value_in w = option_or (name_of w) (option_or (pattern_of w) (decimal_as (has_minus w) (unsigned w)))
