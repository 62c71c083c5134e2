-- A number with a sign: what is read of it without its sign, in the range of 32 bits. Assumes nothing.
use Rattle.std.proofs.Common.{◌≡◌, ℕ, zero, suc, Bool, true, false, cond, ◌&&◌, leb, List, refl, ap, ◌∙◌, arith, leb-false, Option, Some, None, ℤ, pos, negsuc, w32}
use mathlib.Core.Bool.{and-true}
use Rattle.std.specs.Option.{option_and_then}
use Rattle.std.specs.Prelude.{Result, Ok, Err, OkIff, FitsSigned}
use Rattle.std.specs.Result.{result_ok}
use borrow.Author.Tests.{lt-leb}
use Rattle.rounding.specs.Whole.{signed_of, is_i32}
use Rattle.rounding.proofs.Signs.{i32_fits}
use Rattle.numerals.specs.Digits.{is_numeral, numeral_value}
use Rattle.numerals.specs.Numbers.{number_in}
use Rattle.numerals.specs.Integers.{signed_as, signed_in}
use Rattle.numerals.specs.Words.{has_minus, unsigned}

-- what 32 bits hold
abbrev pub in_32 : ℤ → Option ℤ
in_32 z = cond (is_i32 z) (Some z) None

-- a magnitude above 2147483648 is of no sign in range
above : (s : Bool) (n : ℕ) → leb n 2147483648 ≡ false → is_i32 (signed_of s n) ≡ false
above false n h = let l = leb-false n 2147483648 h in lt-leb n 2147483647 (omega arith)
above true zero h = absurd (let l = leb-false 0 2147483648 h in omega arith)
above true (suc n) h = let l = leb-false (suc n) 2147483648 h in rw (lt-leb n 2147483647 (omega arith))

pub signed_is : (s : Bool) (w : List ℕ) → option_and_then (λ n. in_32 (signed_of s n)) (number_in 2147483648 w) ≡ signed_as s w
unfolding number_in signed_as
signed_is s w = go (is_numeral 10 w) (numeral_value 10 w) (leb (numeral_value 10 w) 2147483648) refl
  where
    go : (t : Bool) (n : ℕ) (u : Bool) → leb n 2147483648 ≡ u →
        option_and_then (λ m. in_32 (signed_of s m)) (cond (t && u) (Some n) None) ≡ cond (t && is_i32 (signed_of s n)) (Some (signed_of s n)) None
    go false n u e = refl
    go true n true e = refl
    go true n false e = rw (above s n e)

fits_in_32 : (z : ℤ) → is_i32 z ≡ false → FitsSigned w32 z → ⊥
fits_in_32 (pos n) h f = let l = leb-false n 2147483647 h in let m = f.sfits in omega arith
fits_in_32 (negsuc n) h f = let l = leb-false n 2147483647 (rw (and-true (leb n 2147483647)) at h) in let m = f.sfits in omega arith

-- what a conversion to 32 bits gives
in_32_is : {E : Type 0} (r : Result ℤ E) (z : ℤ) → OkIff r (FitsSigned w32 z) z → result_ok r ≡ in_32 z
in_32_is (Ok x) z h = go (is_i32 z) refl
  where
    go : (t : Bool) → is_i32 z ≡ t → Some x ≡ cond t (Some z) None
    go true e = ap Some h.1
    go false e = absurd (fits_in_32 z e h.0)
in_32_is (Err x) z h = go (is_i32 z) refl
  where
    go : (t : Bool) → is_i32 z ≡ t → None ≡ cond t (Some z) None
    go true e = absurd (h (i32_fits z e))
    go false e = refl

-- the word v is w without its sign
module _ (w v : List ℕ) (h : v ≡ unsigned w) where
  pub none_signed : None ≡ number_in 2147483648 v → None ≡ signed_in w
  none_signed e = ap (option_and_then (λ n. in_32 (signed_of (has_minus w) n))) (e ∙ ap (number_in 2147483648) h) ∙ signed_is (has_minus w) (unsigned w)

  pub some_signed : {E : Type 0} (n : ℕ) (minus : Bool) (z : ℤ) (r : Result ℤ E) → Some n ≡ number_in 2147483648 v → minus ≡ has_minus w → z ≡ signed_of minus n →
      OkIff r (FitsSigned w32 z) z → result_ok r ≡ signed_in w
  some_signed n minus z r e f g k =
      in_32_is r z k
      ∙ ap in_32 (g ∙ ap (λ (s : Bool). signed_of s n) f)
      ∙ ap (option_and_then (λ n. in_32 (signed_of (has_minus w) n))) (e ∙ ap (number_in 2147483648) h)
      ∙ signed_is (has_minus w) (unsigned w)
