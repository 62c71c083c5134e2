-- A numeral is read as the number that it stands for, where that is at most `most`. Assumes nothing.
use Rattle.std.proofs.Common.{◌≡◌, ℕ, ◌+◌, ◌*◌, ◌^◌, ◌≤◌, None, Some, List, [], ◌∷◌, length, refl, arith}
use Rattle.numerals.specs.Digits.{numeral_value, is_numeral}
use Rattle.numerals.specs.Private.{at_most, read_on}
use Rattle.numerals.specs.Numbers.{number_in}
use Rattle.numerals.proofs.Reading.{read_is, at_most_tells}

pub from_zero : (base n : ℕ) (w : List ℕ) → 0 * base ^ length w + n ≡ n
from_zero base n w = omega arith

pub number_is : (most : ℕ) (w : List ℕ) → number_in most w ≡ at_most most (is_numeral 10 w) (numeral_value 10 w)
unfolding number_in
number_is most w = refl

-- an empty word is no number
pub empty_is : (most : ℕ) (w : List ℕ) → length w ≡ 0 → number_in most w ≡ None
unfolding number_in is_numeral
empty_is most [] h = refl
empty_is most (b ∷ w) h = absurd (omega arith)

-- any other is what its digits are, read one after the other
pub digits_are : (most : ℕ) (w : List ℕ) → (length w ≡ 0 → ⊥) → number_in most w ≡ read_on 10 most 0 w
unfolding number_in is_numeral
digits_are most [] h = absurd (h refl)
digits_are most (b ∷ w) h = rw (read_is 10 most 0 (b ∷ w) (omega arith) (omega arith), from_zero 10 (numeral_value 10 (b ∷ w)) (b ∷ w))

pub number_fits : (most : ℕ) (w : List ℕ) (n : ℕ) → number_in most w ≡ Some n → n ≤ most
number_fits most w n e = at_most_tells most (is_numeral 10 w) (numeral_value 10 w) n (rw (number_is most w) at e)
