-- The bit patterns of floats. Assumes nothing.
use Rattle.std.proofs.Common.{◌≡◌, ℕ, ◌^◌, ◌<◌, Bool, true, false, cond, ltb, List, [], ◌∷◌, length, take, drop, refl, arith, ltb-true, eq-eqb, ne_eqb, le-leb, Some, None}
use mathlib.Core.Bool.{and-false, and-eq-true_iff}
use native.Mathlib.Nat.{pow-succ', pow-zero}
use lib.Arith.{digits_lt}
use lib.Ieee.{binary64, of_bits}
use Rattle.std.specs.Option.{option_map}
use Rattle.numerals.specs.Digits.{digit_of, all_digits, numeral_value}
use Rattle.words.specs.Words.{same_bytes}
use Rattle.numerals.specs.Values.{pattern_of}
use Rattle.numerals.specs.Private.{at_most, read_on}
use Rattle.numerals.proofs.Reading.{map_picked, read_is}
use Rattle.numerals.proofs.Numerals.{from_zero}

-- ---- digits of a base stand for a number below its power

number_below : (base : ℕ) (w : List ℕ) → all_digits base w ≡ true → numeral_value base w < base ^ length w
unfolding all_digits numeral_value
number_below base [] h = let z = pow-zero base in omega arith
number_below base (b ∷ w) h =
    let t = (and-eq-true_iff (ltb (digit_of b) base) (all_digits base w)).0 h in
    rw (pow-succ' base (length w)) (digits_lt (ltb-true (digit_of b) base t.0) (number_below base w t.1))

-- 16 hexadecimal digits are never too many for 64 bits
hex : (v : List ℕ) → length v ≡ 16 → read_on 16 18446744073709551615 0 v ≡ cond (all_digits 16 v) (Some (numeral_value 16 v)) None
hex v h = rw (read_is 16 18446744073709551615 0 v (omega arith) (omega arith), from_zero 16 (numeral_value 16 v) v) (go (all_digits 16 v) refl)
  where
    go : (t : Bool) → all_digits 16 v ≡ t → at_most 18446744073709551615 t (numeral_value 16 v) ≡ cond t (Some (numeral_value 16 v)) None
    go false e = refl
    go true e =
        let l : numeral_value 16 v < 16 ^ 16 = rw h at (number_below 16 v e) in
        rw (le-leb (numeral_value 16 v) 18446744073709551615 (omega arith))

-- ---- the pattern

pub no_prefix : (w : List ℕ) → same_bytes (take 2 w) (48 ∷ 120 ∷ []) ≡ false → None ≡ pattern_of w
unfolding pattern_of
no_prefix w h = rw h

pub other_length : (w : List ℕ) → (length (drop 2 w) ≡ 16 → ⊥) → None ≡ pattern_of w
unfolding pattern_of
other_length w h = rw (ne_eqb (length (drop 2 w)) 16 h, and-false (same_bytes (take 2 w) (48 ∷ 120 ∷ [])))

pub pattern_is : (w : List ℕ) → same_bytes (take 2 w) (48 ∷ 120 ∷ []) ≡ true → length (drop 2 w) ≡ 16 →
    option_map (of_bits binary64) (read_on 16 18446744073709551615 0 (drop 2 w)) ≡ pattern_of w
unfolding pattern_of
pattern_is w e l = rw (e, eq-eqb (length (drop 2 w)) 16 l, hex (drop 2 w) l) (map_picked (all_digits 16 (drop 2 w)) _ (of_bits binary64))
