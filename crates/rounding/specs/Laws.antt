-- The laws of the whole value: that `specs/Whole.antt` says what document 01, 'Readings', says. `whole_laws` of `proofs/Laws.antt` proves them.
-- The exact value of `fin s m e` is the fraction m * up e / down e, negative where s is true.
use Rattle.std.specs.Prelude.{◌≡◌, Bool, true, ℕ, ◌*◌, ℤ, pos, ◌*ℤ◌, Float, Ok}
use Rattle.std.specs.Int.Signed.{le_z}
use Rattle.std.specs.Float.{fin}
use Rattle.std.specs.Float.Ieee.{up, down}
use Rattle.std.specs.Int.{w32}
use Rattle.std.proofs.Common.{SFits}
use Rattle.rounding.specs.Whole.{magnitude_of, signed_of, is_i32, in_answer, whole_of}
use Rattle.rounding.specs.Fraction.{IsNearest}

pub record WholeLaws : Type 0 where
  -- The magnitude is within a half of the exact value, and even at a tie.
  pub magnitude_nearest : (m : ℕ) (e : ℤ) → IsNearest (magnitude_of m e) (m * up e) (down e)
  -- No other number is, so the definition says just what document 01, 'Readings', asks for.
  pub magnitude_only : (m : ℕ) (e : ℤ) (q : ℕ) → IsNearest q (m * up e) (down e) → q ≡ magnitude_of m e
  -- A float that is a whole number has that number as its whole value: by its size, and with a sign,
  pub whole_exact : (s : Bool) (m : ℕ) (e : ℤ) (n : ℕ) → m * up e ≡ n * down e → whole_of (fin s m e) ≡ in_answer (signed_of s n)
  -- and for a signed z in the answer's range.
  pub whole_integer : (s : Bool) (m : ℕ) (e z : ℤ) → signed_of s (m * up e) ≡ z *ℤ pos (down e) → is_i32 z ≡ true → whole_of (fin s m e) ≡ Ok z
  -- Both zeros give 0.
  pub whole_zero : (s : Bool) (e : ℤ) → whole_of (fin s 0 e) ≡ Ok (pos 0)
  -- A value that is answered is in the answer's range, so it fits i32.
  pub whole_in : (x : Float) (z : ℤ) → whole_of x ≡ Ok z → is_i32 z ≡ true
  pub whole_fits : (x : Float) (z : ℤ) → whole_of x ≡ Ok z → SFits w32 z
  -- The larger float has the larger whole value, or the same one. The order of the floats is that of their exact values over the denominator that they share.
  pub whole_mono : (s t : Bool) (m n : ℕ) (e d : ℤ) →
      le_z (signed_of s (m * up e * down d)) (signed_of t (n * up d * down e)) ≡ true →
      le_z (signed_of s (magnitude_of m e)) (signed_of t (magnitude_of n d)) ≡ true
