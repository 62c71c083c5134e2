-- Words and what they are read as; proofs/Examples.antt computes it. Each comment gives the words; the bytes are their ASCII codes.
use Rattle.std.specs.Prelude.{◌≡◌, true, false, [], ◌∷◌, pos, negsuc, from_bits, Some, None}
use Rattle.std.specs.Float.{nan, inf, fin, binary64}
use Rattle.numerals.specs.Numbers.{number_in, clicks_in}
use Rattle.numerals.specs.Pairs.{are_pairs, pair_bytes, laid_over}
use Rattle.numerals.specs.Integers.{signed_in}
use Rattle.numerals.specs.Values.{value_in}

pub record Numbers : Type 0 where
  -- `0255` and `256`, of at most 255; the empty word; `1A`
  pub zero_in_front : number_in 255 (48 ∷ 50 ∷ 53 ∷ 53 ∷ []) ≡ Some 255
  pub above : number_in 255 (50 ∷ 53 ∷ 54 ∷ []) ≡ None
  pub empty : number_in 255 [] ≡ None
  pub letter : number_in 255 (49 ∷ 65 ∷ []) ≡ None
  -- clicks, modulo 256: `127`, `128`, `-1`, `-128`, `-129`, `-0`
  pub most : clicks_in (49 ∷ 50 ∷ 55 ∷ []) ≡ Some 127
  pub too_many : clicks_in (49 ∷ 50 ∷ 56 ∷ []) ≡ None
  pub one_back : clicks_in (45 ∷ 49 ∷ []) ≡ Some 255
  pub most_back : clicks_in (45 ∷ 49 ∷ 50 ∷ 56 ∷ []) ≡ Some 128
  pub too_many_back : clicks_in (45 ∷ 49 ∷ 50 ∷ 57 ∷ []) ≡ None
  pub none_back : clicks_in (45 ∷ 48 ∷ []) ≡ Some 0
  -- of 64 bits: `18446744073709551615`, `18446744073709551616`
  pub largest : number_in 18446744073709551615 (49 ∷ 56 ∷ 52 ∷ 52 ∷ 54 ∷ 55 ∷ 52 ∷ 52 ∷ 48 ∷ 55 ∷ 51 ∷ 55 ∷ 48 ∷ 57 ∷ 53 ∷ 53 ∷ 49 ∷ 54 ∷ 49 ∷ 53 ∷ []) ≡ Some 18446744073709551615
  pub above_largest : number_in 18446744073709551615 (49 ∷ 56 ∷ 52 ∷ 52 ∷ 54 ∷ 55 ∷ 52 ∷ 52 ∷ 48 ∷ 55 ∷ 51 ∷ 55 ∷ 48 ∷ 57 ∷ 53 ∷ 53 ∷ 49 ∷ 54 ∷ 49 ∷ 54 ∷ []) ≡ None

pub record Pairs : Type 0 where
  -- `0fF0`: two pairs, of digits of either case, and their bytes
  pub two : are_pairs (48 ∷ 102 ∷ 70 ∷ 48 ∷ []) ≡ true
  pub two_bytes : pair_bytes (48 ∷ 102 ∷ 70 ∷ 48 ∷ []) ≡ 15 ∷ 240 ∷ []
  -- `0fF`, `0g`, the empty word
  pub odd : are_pairs (48 ∷ 102 ∷ 70 ∷ []) ≡ false
  pub letter : are_pairs (48 ∷ 103 ∷ []) ≡ false
  pub empty : are_pairs [] ≡ false
  -- bytes 15 and 240 over a target of three bytes, and over one of one byte
  pub within : laid_over (15 ∷ 240 ∷ []) (1 ∷ 2 ∷ 3 ∷ []) ≡ 15 ∷ 240 ∷ 3 ∷ []
  pub short : laid_over (15 ∷ 240 ∷ []) (1 ∷ []) ≡ 15 ∷ []

pub record Integers : Type 0 where
  -- `-2147483648`, `2147483648`, `-0`, `-`, `+1`
  pub lowest : signed_in (45 ∷ 50 ∷ 49 ∷ 52 ∷ 55 ∷ 52 ∷ 56 ∷ 51 ∷ 54 ∷ 52 ∷ 56 ∷ []) ≡ Some (negsuc 2147483647)
  pub above : signed_in (50 ∷ 49 ∷ 52 ∷ 55 ∷ 52 ∷ 56 ∷ 51 ∷ 54 ∷ 52 ∷ 56 ∷ []) ≡ None
  pub minus_zero : signed_in (45 ∷ 48 ∷ []) ≡ Some (pos 0)
  pub sign_alone : signed_in (45 ∷ []) ≡ None
  pub plus : signed_in (43 ∷ 49 ∷ []) ≡ None

pub record Values : Type 0 where
  -- `-12.5`, `0.1`, `-0`
  pub minus_half : value_in (45 ∷ 49 ∷ 50 ∷ 46 ∷ 53 ∷ []) ≡ Some (from_bits binary64 0xc029_0000_0000_0000)
  pub tenth : value_in (48 ∷ 46 ∷ 49 ∷ []) ≡ Some (from_bits binary64 0x3fb9_9999_9999_999a)
  pub minus_zero : value_in (45 ∷ 48 ∷ []) ≡ Some (fin true 0 (pos 0))
  -- `nan`, `-inf`, `0x3fB9999999999999`
  pub no_number : value_in (110 ∷ 97 ∷ 110 ∷ []) ≡ Some nan
  pub minus_infinity : value_in (45 ∷ 105 ∷ 110 ∷ 102 ∷ []) ≡ Some (inf true)
  pub bits : value_in (48 ∷ 120 ∷ 51 ∷ 102 ∷ 66 ∷ 57 ∷ 57 ∷ 57 ∷ 57 ∷ 57 ∷ 57 ∷ 57 ∷ 57 ∷ 57 ∷ 57 ∷ 57 ∷ 57 ∷ 57 ∷ []) ≡ Some (from_bits binary64 0x3fb9_9999_9999_9999)
  -- the empty word, `.5`, `5.`, `1e5`, `+1`, `NaN`, `0x3f`
  pub empty : value_in [] ≡ None
  pub no_whole : value_in (46 ∷ 53 ∷ []) ≡ None
  pub no_fraction : value_in (53 ∷ 46 ∷ []) ≡ None
  pub exponent : value_in (49 ∷ 101 ∷ 53 ∷ []) ≡ None
  pub plus : value_in (43 ∷ 49 ∷ []) ≡ None
  pub upper_case : value_in (78 ∷ 97 ∷ 78 ∷ []) ≡ None
  pub few_digits : value_in (48 ∷ 120 ∷ 51 ∷ 102 ∷ []) ≡ None
