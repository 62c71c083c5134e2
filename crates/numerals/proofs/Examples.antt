-- The examples of specs/Examples.antt, each by computing it. Assumes nothing.
use Rattle.std.proofs.Common.{refl}
use lib.Ieee.{of_bits, round}
use Rattle.words.specs.Words.{up_to}
use Rattle.numerals.specs.Digits.{all_digits, numeral_value, is_numeral}
use Rattle.numerals.specs.Numbers.{number_in, clicks_in}
use Rattle.numerals.specs.Pairs.{are_pairs, pair_bytes}
use Rattle.numerals.specs.Integers.{signed_as}
use Rattle.numerals.specs.Values.{pattern_of, decimal_as}
use Rattle.numerals.specs.Examples.{Numbers, Pairs, Integers, Values}

pub numbers : Numbers
unfolding all_digits numeral_value is_numeral number_in clicks_in
numbers = record {
  zero_in_front = refl;
  above = refl;
  empty = refl;
  letter = refl;
  most = refl;
  too_many = refl;
  one_back = refl;
  most_back = refl;
  too_many_back = refl;
  none_back = refl;
  largest = refl;
  above_largest = refl;
}

pub pairs : Pairs
unfolding all_digits is_numeral are_pairs pair_bytes
pairs = record { two = refl; two_bytes = refl; odd = refl; letter = refl; empty = refl; within = refl; short = refl }

pub integers : Integers
unfolding all_digits numeral_value is_numeral signed_as
integers = record { lowest = refl; above = refl; minus_zero = refl; sign_alone = refl; plus = refl }

pub values : Values
unfolding all_digits numeral_value is_numeral up_to pattern_of decimal_as of_bits round
values = record {
  minus_half = refl;
  tenth = refl;
  minus_zero = refl;
  no_number = refl;
  minus_infinity = refl;
  bits = refl;
  empty = refl;
  no_whole = refl;
  no_fraction = refl;
  exponent = refl;
  plus = refl;
  upper_case = refl;
  few_digits = refl;
}
