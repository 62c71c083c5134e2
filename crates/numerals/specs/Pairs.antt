-- Bytes as a script writes them: pairs of hexadecimal digits, of which the first counts 16 times. The console's page, 'the bus area'.
use Rattle.std.specs.Prelude.{ℕ, ◌+◌, ◌*◌, ◌%◌, Bool, ◌&&◌, List, [], ◌∷◌, ◌++◌, length, take, drop, ◌==◌}
use Rattle.numerals.specs.Digits.{digit_of, is_numeral}

-- one or more pairs, of digits of either case, and nothing else
unfoldable pub are_pairs : List ℕ → Bool
are_pairs w = is_numeral 16 w && length w % 2 == 0

-- the byte of a pair; the remainder is only for bytes that are no digits
abbrev pub pair_byte : ℕ → ℕ → ℕ
pair_byte high low = (digit_of high * 16 + digit_of low) % 256

-- the bytes of a word of pairs; a digit that is left over makes none
unfoldable pub pair_bytes : List ℕ → List ℕ
pair_bytes [] = []
pair_bytes (high ∷ []) = []
pair_bytes (high ∷ low ∷ w) = pair_byte high low ∷ pair_bytes w

-- bytes over the first ones of a target, as many as it has
abbrev pub laid_over : List ℕ → List ℕ → List ℕ
laid_over bytes target = take (length target) bytes ++ drop (length bytes) target
